-- Slips out are as many as held transfers.
use Rattle.std.proofs.Common.{◌≡◌, ℕ, zero, suc, ◌+◌, ◌<◌, Bool, true, false, cond, eqb, ◌⊎◌, List, [], ◌∷◌, length, is_ok, Err, refl, ap, inl, inr, arith}
use Rattle.std.proofs.lemmas.Bool.{and_parts, ltb-true, eq-eqb, ne_eqb, cases_eq, cond-true, cond-false, both_ways}
use Rattle.board.specs.declared.refusal.Refusal.TheVariants.{NoSuch, NoTransfer}
use Rattle.sheet.specs.Rules.{Tables}
use Rattle.model.specs.declared.mark.Mark.{Mark}
use Rattle.model.specs.declared.mark.Mark.TheVariants.{Unmarked, Held, Struck}
use Rattle.model.specs.Finite.{count}
use Rattle.board.specs.Ledger.{Ledger, Call, report, hold, release, strike, clear, trial, plan, reserve, opened, with_delay, with_mark, step, steps, has_activity, transfers, if_unmarked, if_struck, report_answer, hold_answer, strike_answer, clear_answer, holds, is_held, slip_for}
use Rattle.keeper.specs.Law.{held_count, hold_taken, release_taken, holds_taken, releases_taken}

abbrev bit : Bool → ℕ
bit b = cond b 1 0

count_same : (n : ℕ) (t u : ℕ → Bool) → ((k : ℕ) → k < n → t k ≡ u k) → count n t ≡ count n u
unfolding count
count_same zero t u h = refl
count_same (suc n) t u h = let r = count_same n t u (λ k w. h k (omega arith)) in let s = ap bit (h n (omega arith)) in omega arith

-- one test changed
one_changed : (n a : ℕ) (b : Bool) (t : ℕ → Bool) → a < n → count n (λ k. cond (eqb k a) b (t k)) + bit (t a) ≡ count n t + bit b
unfolding count
one_changed zero a b t h = absurd (omega arith)
one_changed (suc n) a b t h = go (cases_eq n a) (one_changed n a b t)
  where
    go : (n ≡ a) ⊎ (n ≡ a → ⊥) → (a < n → count n (λ k. cond (eqb k a) b (t k)) + bit (t a) ≡ count n t + bit b)
        → (count n (λ k. cond (eqb k a) b (t k)) + cond (cond (eqb n a) b (t n)) 1 0) + bit (t a) ≡ (count n t + cond (t n) 1 0) + bit b
    go (inl e) before =
        let s : count n (λ k. cond (eqb k a) b (t k)) ≡ count n t = count_same n _ t (λ k w. cond-false (eqb k a) b (t k) (ne_eqb k a (λ z. omega arith))) in
        let u : bit (cond (eqb n a) b (t n)) ≡ bit b = ap bit (cond-true (eqb n a) b (t n) (eq-eqb n a e)) in
        let v : bit (t n) ≡ bit (t a) = ap (λ k. bit (t k)) e in
        omega arith
    go (inr ne) before =
        let r = before (omega arith) in
        let u : bit (cond (eqb n a) b (t n)) ≡ bit (t n) = ap bit (cond-false (eqb n a) b (t n) (ne_eqb n a ne)) in
        omega arith

held_of : (b : Bool) (m k : Mark) → is_held (cond b m k) ≡ cond b (is_held m) (is_held k)
held_of true m k = refl
held_of false m k = refl

-- one mark changed
marked : (l : Ledger) (a : ℕ) (m : Mark) → a < length l.sheet.activities → held_count (with_mark l a m) + bit (is_held (l.mark a)) ≡ held_count l + bit (is_held m)
marked l a m h =
    let n = length l.sheet.activities in
    let s : held_count (with_mark l a m) ≡ count n (λ k. cond (eqb k a) (is_held m) (is_held (l.mark k))) = count_same n _ _ (λ k w. held_of (eqb k a) m (l.mark k)) in
    let r = one_changed n a (is_held m) (λ k. is_held (l.mark k)) h in
    omega arith

-- what may be held, struck or cleared is on the sheet and not held
free : {X : Type 0} (x : X) (has transfer : Bool) (m : Mark) → is_ok (cond has (cond transfer (if_unmarked x m) (Err NoTransfer)) (Err NoSuch)) ≡ true → (has ≡ true) × (is_held m ≡ false)
free x false transfer m h = absurd (both_ways false refl h)
free x true false m h = absurd (both_ways false refl h)
free x true true Unmarked h = (refl, refl)
free x true true Held h = absurd (both_ways false refl h)
free x true true Struck h = absurd (both_ways false refl h)

cleared : (has transfer : Bool) (m : Mark) → is_ok (cond has (cond transfer (if_struck m) (Err NoTransfer)) (Err NoSuch)) ≡ true → (has ≡ true) × (is_held m ≡ false)
cleared false transfer m h = absurd (both_ways false refl h)
cleared true false m h = absurd (both_ways false refl h)
cleared true true Unmarked h = absurd (both_ways false refl h)
cleared true true Held h = absurd (both_ways false refl h)
cleared true true Struck h = (refl, refl)

module _ (l : Ledger) (a : ℕ) (m : Mark) where
  -- a mark set where none was held
  set_free : (b : Bool) → (b ≡ true → (has_activity l a ≡ true) × (is_held (l.mark a) ≡ false)) → held_count l + cond b (bit (is_held m)) 0 ≡ held_count (cond b (with_mark l a m) l)
  set_free false h = omega arith
  set_free true h =
      let f = h refl in
      let w = ltb-true a (length l.sheet.activities) f.0 in
      omega (arith, marked l a m w, ap bit f.1)

  -- and where one was
  set_held : (b : Bool) → (b ≡ true → (has_activity l a ≡ true) × (is_held (l.mark a) ≡ true)) → is_held m ≡ false → held_count l ≡ held_count (cond b (with_mark l a m) l) + bit b
  set_held false h n = omega arith
  set_held true h n =
      let f = h refl in
      let w = ltb-true a (length l.sheet.activities) f.0 in
      omega (arith, marked l a m w, ap bit f.1, ap bit n)

none : (b : Bool) → ◌≡◌ {A = ℕ} (cond b 0 0) 0
none true = refl
none false = refl

-- a call changes the holds and the held together
delayed : (b : Bool) (l m : Ledger) → held_count m ≡ held_count l → held_count (cond b m l) ≡ held_count l
delayed true l m e = e
delayed false l m e = refl

one_call : (l : Ledger) (c : Call) → held_count l + hold_taken l c ≡ held_count (step l c) + release_taken l c
one_call l (report e minutes) = let s = delayed (is_ok (report_answer l e minutes)) l (with_delay l e minutes) refl in omega arith
one_call l (hold a) = let s = set_free l a Held (is_ok (hold_answer l a)) (free (slip_for l a) (has_activity l a) (transfers l a) (l.mark a)) in omega arith
one_call l (release board a) =
    let s = set_held l a Unmarked (holds l board a) (λ h. let x = and_parts _ _ h in and_parts (has_activity l a) (is_held (l.mark a)) x.1) refl in
    omega arith
one_call l (strike a) =
    let s = set_free l a Struck (is_ok (strike_answer l a)) (free tt (has_activity l a) (transfers l a) (l.mark a)) in
    let z = none (is_ok (strike_answer l a)) in
    omega arith
one_call l (clear a) =
    let s = set_free l a Unmarked (is_ok (clear_answer l a)) (cleared (has_activity l a) (transfers l a) (l.mark a)) in
    let z = none (is_ok (clear_answer l a)) in
    omega arith
one_call l (trial a) = omega arith
one_call l plan = omega arith
one_call l reserve = omega arith

all_calls : (calls : List Call) (l : Ledger) → held_count l + holds_taken l calls ≡ held_count (steps l calls) + releases_taken l calls
unfolding steps holds_taken releases_taken
all_calls [] l = omega arith
all_calls (c ∷ calls) l = let s = one_call l c in let r = all_calls calls (step l c) in omega arith

no_marks : (n : ℕ) → count n (λ a. false) ≡ 0
unfolding count
no_marks zero = refl
no_marks (suc n) = let r = no_marks n in omega arith

pub slips_out : (t : Tables) (number : ℕ) (calls : List Call) → holds_taken (opened t number) calls ≡ held_count (steps (opened t number) calls) + releases_taken (opened t number) calls
slips_out t number calls = let r = all_calls calls (opened t number) in let z = no_marks (length t.activities) in omega arith
