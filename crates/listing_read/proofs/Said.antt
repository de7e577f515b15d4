-- What a line's words say, from what each word says.
use Rattle.std.proofs.Common.{◌≡◌, ℕ, zero, suc, ◌<◌, true, eqb, List, [], ◌∷◌, length, get_or, is_err, None, Ok, Err, Option, Result, sym, refl, ap, ◌∙◌, le_of_suc-le-suc, arith, Bor}
use Rattle.std.specs.Result.{result_ok}
use Rattle.std.proofs.lemmas.Bool.{eq-eqb, cond-true, both_ways}
use Rattle.sheet.specs.declared.records.Kind.{Kind}
use Rattle.sheet.specs.declared.records.Side.{Side}
use Rattle.listing_read.specs.Words.{word_at, number_of, side_of, period_of, event_by, event_of, activity_by, activity_of}

pub none_from_err : {T E : Type 0} (r : Result T E) → is_err r ≡ true → result_ok r ≡ None
none_from_err (Ok x) e = absurd (both_ways _ refl e)
none_from_err (Err x) e = refl

at_word : (ws : List (Bor (List ℕ))) (i : ℕ) (d : Bor (List ℕ)) → i < length ws → word_at ws i ≡ (get_or ws i d).now
at_word [] i d h = absurd (omega arith)
at_word (w ∷ ws) zero d h = refl
at_word (w ∷ ws) (suc i) d h = at_word ws i d (le_of_suc-le-suc h)

-- the word's answer, as the line's meaning has it
says : {A : Type 0} (f : List ℕ → Option A) (ws : List (Bor (List ℕ))) (i : ℕ) (d : Bor (List ℕ)) (x : Option A) → i < length ws → x ≡ f (get_or ws i d).now → f (word_at ws i) ≡ x
says f ws i d x h e = ap f (at_word ws i d h) ∙ sym e

pub period_says : (ws : List (Bor (List ℕ))) (d : Bor (List ℕ)) (x : Option ℕ) → length ws ≡ 1 → x ≡ number_of (get_or ws 0 d).now → period_of ws ≡ x
period_says ws d x n p = cond-true (eqb (length ws) 1) _ _ (eq-eqb _ _ n) ∙ says number_of ws 0 d x (omega arith) p

pub activity_says : (kind : Kind) (ws : List (Bor (List ℕ))) (d : Bor (List ℕ)) (x y z : Option ℕ) → length ws ≡ 3 → x ≡ number_of (get_or ws 0 d).now → y ≡ number_of (get_or ws 1 d).now → z ≡ number_of (get_or ws 2 d).now → activity_of kind ws ≡ activity_by kind x y z
activity_says kind ws d x y z n p q r =
    let a = says number_of ws 0 d x (omega arith) p in
    let b = says number_of ws 1 d y (omega arith) q in
    let c = says number_of ws 2 d z (omega arith) r in
    cond-true (eqb (length ws) 3) _ _ (eq-eqb _ _ n) ∙ (λ i. activity_by kind (a i) (b i) (c i))

pub event_says : (ws : List (Bor (List ℕ))) (d : Bor (List ℕ)) (x y : Option ℕ) (s : Option Side) (z : Option ℕ) → length ws ≡ 4 → x ≡ number_of (get_or ws 0 d).now → y ≡ number_of (get_or ws 1 d).now → s ≡ side_of (get_or ws 2 d).now → z ≡ number_of (get_or ws 3 d).now → event_of ws ≡ event_by x y s z
event_says ws d x y s z n p q r t =
    let a = says number_of ws 0 d x (omega arith) p in
    let b = says number_of ws 1 d y (omega arith) q in
    let c = says side_of ws 2 d s (omega arith) r in
    let e = says number_of ws 3 d z (omega arith) t in
    cond-true (eqb (length ws) 4) _ _ (eq-eqb _ _ n) ∙ (λ i. event_by (a i) (b i) (c i) (e i))
