-- A word parted at its first equals sign.
use Rattle.std.proofs.Common.{◌≡◌, ℕ, zero, suc, ◌<◌, false, eqb, List, [], ◌∷◌, ◌++◌, length, get_or, Some, None, Option, sym, refl, ap, ◌∙◌, ap₂, arith}
use Rattle.std.proofs.lemmas.Bool.{ne_eqb, cond-false}
use Rattle.words.specs.Numbers.{number_of}
use Rattle.desk.specs.Reported.{before_equals, after_equals, report_by, report_of}

-- no equals sign stands in a text
abbrev pub Plain : List ℕ → Type 0
Plain cs = (i : ℕ) → i < length cs → get_or cs i 0 ≡ 61 → ⊥

head_plain : (c : ℕ) (cs : List ℕ) → Plain (c ∷ cs) → eqb c 61 ≡ false
head_plain c cs h = ne_eqb c 61 (h zero (omega arith))

rest_plain : (c : ℕ) (cs : List ℕ) → Plain (c ∷ cs) → Plain cs
rest_plain c cs h = λ i k. h (suc i) (omega arith)

before_it : (cs ds : List ℕ) → Plain cs → before_equals (cs ++ (61 ∷ ds)) ≡ cs
unfolding before_equals
before_it [] ds h = refl
before_it (c ∷ cs) ds h = cond-false (eqb c 61) [] _ (head_plain c cs h) ∙ ap (λ (l : List ℕ). c ∷ l) (before_it cs ds (rest_plain c cs h))

after_it : (cs ds : List ℕ) → Plain cs → after_equals (cs ++ (61 ∷ ds)) ≡ ds
unfolding after_equals
after_it [] ds h = refl
after_it (c ∷ cs) ds h = cond-false (eqb c 61) (cs ++ (61 ∷ ds)) _ (head_plain c cs h) ∙ after_it cs ds (rest_plain c cs h)

after_none : (cs : List ℕ) → Plain cs → after_equals cs ≡ []
unfolding after_equals
after_none [] h = refl
after_none (c ∷ cs) h = cond-false (eqb c 61) cs _ (head_plain c cs h) ∙ after_none cs (rest_plain c cs h)

pub report_parted : (word cs ds : List ℕ) → word ≡ cs ++ (61 ∷ ds) → Plain cs → report_by (number_of cs) (number_of ds) ≡ report_of word
report_parted word cs ds e h =
    sym (ap report_of e ∙ ap₂ (λ (a b : List ℕ). report_by (number_of a) (number_of b)) (before_it cs ds h) (after_it cs ds h))

by_none : (a : Option ℕ) → None ≡ report_by a None
by_none None = refl
by_none (Some x) = refl

pub report_none : (word : List ℕ) → Plain word → None ≡ report_of word
report_none word h = by_none (number_of (before_equals word)) ∙ sym (ap (λ (b : List ℕ). report_by (number_of (before_equals word)) (number_of b)) (after_none word h))
