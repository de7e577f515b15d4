-- When a word is a number, as Rust's `parse` reads it.
use Rattle.std.proofs.Common.{◌≡◌, ◌≢◌, ℕ, ◌<◌, Bool, true, false, ◌&&◌, eqb, ltb, List, [], ◌∷◌, length, get_or, Some, None, Ok, Err, Option, Result, sym, refl, ap, ◌∙◌, arith, rules, Bor, slice_get}
use Rattle.std.specs.Option.{option_copied, option_eq}
use Rattle.std.specs.Result.{result_ok}
use Rattle.std.specs.Str.{all_ascii_digits}
use Rattle.std.specs.Str.Parse.{ParsesUnsigned}
use Rattle.std.proofs.lemmas.Bool.{eq-eqb, both_ways, lt-ltb, ltb-true, and_parts, and_from, cond-true, cond-false}
use Rattle.std.proofs.lemmas.Str.Parse.{IsNumeralModel, numerals_by_fold, not_in_digits, parse_plain}
use Rattle.words.specs.Numbers.{value_on, value_of, is_number, number_of}

false_from : (b : Bool) → (b ≡ true → ⊥) → b ≡ false
false_from true never = absurd (never refl)
false_from false never = refl

none_not_some : (n : ℕ) → None ≡ Some n → ⊥
none_not_some n e = cc

pub own : IsNumeralModel (λ ds. all_ascii_digits ds ≡ true) (value_on 0)
own = numerals_by_fold _ (search rules) value_on (search rules)

pub a_number : (w : List ℕ) → all_ascii_digits w ≡ true → 0 < length w → value_of w < 65536 → number_of w ≡ Some (value_of w)
a_number w digits some small =
    cond-true (is_number w) (Some (value_of w)) None
    (and_from _ _ (lt-ltb 0 (length w) some) (and_from _ _ digits (lt-ltb (value_of w) 65536 small)))

pub no_number : (w : List ℕ) → (all_ascii_digits w ≡ true → 0 < length w → value_of w < 65536 → ⊥) → number_of w ≡ None
no_number w never =
    cond-false (is_number w) (Some (value_of w)) None
    (false_from (is_number w) (λ e.
    let p = and_parts (ltb 0 (length w)) (all_ascii_digits w && ltb (value_of w) 65536) e in
    let q = and_parts (all_ascii_digits w) (ltb (value_of w) 65536) p.1 in
    never q.0 (ltb-true 0 (length w) p.0) (ltb-true (value_of w) 65536 q.1)))

-- a plus sign is no digit
pub plus_no_number : (w : List ℕ) → get_or w 0 0 ≡ 43 → number_of w ≡ None
plus_no_number w plus = no_number w (λ digits some small. not_in_digits own w 43 digits (λ in-digits. omega arith) 0 some plus)

-- what the first byte's test says
pub no_plus : (w : List ℕ) (first : Option (Bor ℕ)) (plus : Bor ℕ) → option_copied first ≡ slice_get w 0 → plus.now ≡ 43
    → false ≡ option_eq (λ x y. eqb x.now y.now) first (Some plus) → get_or w 0 0 ≢ 43
no_plus [] first plus is sign other e = absurd (omega arith)
no_plus (c ∷ cs) None plus is sign other e = absurd (none_not_some c is)
no_plus (c ∷ cs) (Some b) plus is sign other e =
    let same : b.now ≡ c = cc in
    absurd (both_ways _ (sym other) (eq-eqb b.now plus.now (omega arith)))

-- with no plus sign before it, a word is the number that `parse` reads
pub parsed : {E : Type 0} (w : List ℕ) (r : Result ℕ E) → ParsesUnsigned 16 10 w r → get_or w 0 0 ≢ 43 → result_ok r ≡ number_of w
parsed {E = E} w (Ok n) h plain =
    let known = parse_plain own {E = E} 16 w (Ok n) h plain in
    ap Some known.1 ∙ sym (a_number w known.0.0 known.0.1 known.0.2)
parsed {E = E} w (Err e) h plain =
    let never = parse_plain own {E = E} 16 w (Err e) h plain in
    sym (no_number w (λ digits some small. never (digits, some, small)))
