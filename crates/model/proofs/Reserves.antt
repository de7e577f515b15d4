-- The reserve theorem.
use Rattle.std.proofs.Common.{◌≡◌, ℕ, zero, suc, ◌-◌, ◌<◌, ◌≤◌, min, true, false, cond, not, ◌&&◌, eqb, leb, ◌⊎◌, ◌↔◌, sym, refl, ap, ap₂, inl, inr, arith}
use Rattle.std.proofs.lemmas.Bool.{cases_eq, cases_Bool, eqb-true, leb-true, leb-false}
use Rattle.std.proofs.lemmas.Bool.Decides.{nat_tests}
use Rattle.model.proofs.Ground.{Sound, own_all}
use Rattle.model.specs.Finite.{low}
use Rattle.model.specs.Lateness.{Lawful, all_wait, binds, worst}
use Rattle.model.specs.Reserves.{greatest, reserve, reserve_step, tolerance}
use Rattle.model.specs.Yard.{Yard, activity_count, event_count, handed, head, noted, struck, tail}
use Rattle.model.proofs.Lateness.{least_least}
use Rattle.model.proofs.Forest.{worst_lawful}
use Rattle.model.proofs.Turns.{turns_is}
use Rattle.model.proofs.Bills.{nearer}

pub low_start : (n : ℕ) (f : ℕ → ℕ) (x : ℕ) → low n f x ≤ x
unfolding low
low_start zero f x = omega arith
low_start (suc n) f x = let r = low_start n f x in omega arith

pub low_le : (n : ℕ) (f : ℕ → ℕ) (x i : ℕ) → i < n → low n f x ≤ f i
unfolding low
low_le zero f x i h = absurd (omega arith)
low_le (suc n) f x i h = go (cases_eq i n) (λ k. low_le n f x i k)
  where
    go : (i ≡ n) ⊎ (i ≡ n → ⊥) → (i < n → low n f x ≤ f i) → min (low n f x) (f n) ≤ f i
    go (inl e) r = let p : f i ≡ f n = ap f e in omega arith
    go (inr ne) r = let p = r (omega arith) in omega arith

pub le_low : (n : ℕ) (f : ℕ → ℕ) (x y : ℕ) → y ≤ x → ((i : ℕ) → i < n → y ≤ f i) → y ≤ low n f x
unfolding low
le_low zero f x y h s = h
le_low (suc n) f x y h s = let r = le_low n f x y h (λ i k. s i (omega arith)) in let t = s n (omega arith) in omega arith

pub low_same : (n : ℕ) (f h : ℕ → ℕ) (x : ℕ) → ((i : ℕ) → i < n → f i ≡ h i) → low n f x ≡ low n h x
unfolding low
low_same zero f h x s = refl
low_same (suc n) f h x s = ap₂ min (low_same n f h x (λ i k. s i (omega arith))) (s n (omega arith))

module _ (f : ℕ → ℕ) (still : f 0 ≡ 0) (r : ℕ) where
  pub greatest_fits : (k : ℕ) → f (greatest f r k) ≤ r
  unfolding greatest
  greatest_fits zero = omega arith
  greatest_fits (suc k) = go (cases_Bool (leb (f (suc k)) r)) (greatest_fits k)
    where
      go : (leb (f (suc k)) r ≡ true) ⊎ (leb (f (suc k)) r ≡ false) → f (greatest f r k) ≤ r → f (cond (leb (f (suc k)) r) (suc k) (greatest f r k)) ≤ r
      go (inl t) h = rw t (leb-true (f (suc k)) r t)
      go (inr t) h = rw t h

  pub greatest_most : (k l : ℕ) → l ≤ k → f l ≤ r → l ≤ greatest f r k
  unfolding greatest
  greatest_most zero l h s = h
  greatest_most (suc k) l h s = go (cases_Bool (leb (f (suc k)) r)) (cases_eq l (suc k)) (λ j. greatest_most k l j s)
    where
      go : (leb (f (suc k)) r ≡ true) ⊎ (leb (f (suc k)) r ≡ false) → (l ≡ suc k) ⊎ (l ≡ suc k → ⊥) → (l ≤ k → l ≤ greatest f r k) → l ≤ cond (leb (f (suc k)) r) (suc k) (greatest f r k)
      go (inl t) e v = rw t h
      go (inr t) (inl e) v = let u = leb-false (f (suc k)) r t in let w : f l ≡ f (suc k) = ap f e in absurd (omega arith)
      go (inr t) (inr ne) v = rw t (v (omega arith))

module _ (g : Yard) (so : Sound g) where
  pub reserve_is : (e : ℕ) → reserve g e ≡ reserve_step g (reserve g) e
  unfolding reserve
  reserve_is = turns_is 0 (reserve_step g) (λ e. event_count g - e) (λ f h e s. low_same (activity_count g) _ _ (tolerance g e) (λ a w. each f h e s a w))
    where
      each : (f h : ℕ → ℕ) (e : ℕ) → ((i : ℕ) → event_count g - i < event_count g - e → f i ≡ h i) → (a : ℕ) → a < activity_count g →
          cond (eqb (tail g a) e && not (struck g a)) (greatest (handed g a) (f (head g a)) 1440) (tolerance g e) ≡ cond (eqb (tail g a) e && not (struck g a)) (greatest (handed g a) (h (head g a)) 1440) (tolerance g e)
      each f h e s a w = go (cases_Bool (eqb (tail g a) e))
        where
          go : (eqb (tail g a) e ≡ true) ⊎ (eqb (tail g a) e ≡ false) → cond (eqb (tail g a) e && not (struck g a)) (greatest (handed g a) (f (head g a)) 1440) (tolerance g e) ≡ cond (eqb (tail g a) e && not (struck g a)) (greatest (handed g a) (h (head g a)) 1440) (tolerance g e)
          go (inl t) = ap (λ x. cond (eqb (tail g a) e && not (struck g a)) (greatest (handed g a) x 1440) (tolerance g e)) (s (head g a) (nearer g so a e w (eqb-true (tail g a) e t)))
          go (inr t) = rw t

  -- a reserve is within the tolerance
  pub reserve_tolerance : (e : ℕ) → reserve g e ≤ tolerance g e
  reserve_tolerance e =
      let is = reserve_is e in
      let l = low_start (activity_count g) (λ a. cond (eqb (tail g a) e && not (struck g a)) (greatest (handed g a) (reserve g (head g a)) 1440) (tolerance g e)) (tolerance g e) in
      omega arith

module _ (g : Yard) (so : Sound g) (small : (e : ℕ) → noted g e ≤ 1440) where
  worst_capped : (e : ℕ) → worst g e ≤ 1440
  unfolding worst
  worst_capped = least_least g so all_wait (λ e. 1440) (record { own = λ e w. small e; next = λ a w r. so.under a 1440 })

  -- the reserve is itself a lawful lateness, once it covers the delays
  covers : ((e : ℕ) → noted g e ≤ reserve g e) → Lawful g all_wait (reserve g)
  covers h = record { own = λ e w. h e; next = λ a w r. next a w r }
    where
      next : (a : ℕ) → a < activity_count g → binds g all_wait a ≡ true → handed g a (reserve g (tail g a)) ≤ reserve g (head g a)
      next a w r =
          let is = reserve_is g so (tail g a) in
          let t = low_le (activity_count g) (λ b. cond (eqb (tail g b) (tail g a) && not (struck g b)) (greatest (handed g b) (reserve g (head g b)) 1440) (tolerance g (tail g a))) (tolerance g (tail g a)) a w in
          let c : cond (eqb (tail g a) (tail g a) && not (struck g a)) (greatest (handed g a) (reserve g (head g a)) 1440) (tolerance g (tail g a)) ≡ greatest (handed g a) (reserve g (head g a)) 1440 = grind (arith, nat_tests) in
          let f = greatest_fits (handed g a) (so.still a) (reserve g (head g a)) 1440 in
          let m = so.mono a (reserve g (tail g a)) (greatest (handed g a) (reserve g (head g a)) 1440) (omega arith) in
          omega arith

  within_reserve : ((e : ℕ) → worst g e ≤ tolerance g e) → (k e : ℕ) → event_count g - e < k → worst g e ≤ reserve g e
  within_reserve h zero e s = absurd (omega arith)
  within_reserve h (suc k) e s =
      let is = reserve_is g so e in
      let t : worst g e ≤ reserve_step g (reserve g) e = le_low (activity_count g) _ (tolerance g e) (worst g e) (h e) (λ a w. each a w (cases_Bool (eqb (tail g a) e)) (cases_Bool (struck g a)) (λ v. within_reserve h k (head g a) v)) in
      omega arith
    where
      each : (a : ℕ) → a < activity_count g → (eqb (tail g a) e ≡ true) ⊎ (eqb (tail g a) e ≡ false) → (struck g a ≡ true) ⊎ (struck g a ≡ false) → (event_count g - head g a < k → worst g (head g a) ≤ reserve g (head g a)) →
          worst g e ≤ cond (eqb (tail g a) e && not (struck g a)) (greatest (handed g a) (reserve g (head g a)) 1440) (tolerance g e)
      each a w (inr t) u v = rw t (h e)
      each a w (inl t) (inl u) v = rw (t, u) (h e)
      each a w (inl t) (inr u) v =
          let e' = eqb-true (tail g a) e t in
          let j = nearer g so a e w e' in
          let r : binds g all_wait a ≡ true = grind (arith, nat_tests) in
          let m = (worst_lawful g so).next a w r in
          let d : handed g a (worst g e) ≡ handed g a (worst g (tail g a)) = ap (λ x. handed g a (worst g x)) (sym e') in
          let i = v (omega arith) in
          rw (t, u) (greatest_most (handed g a) (so.still a) (reserve g (head g a)) 1440 (worst g e) (worst_capped e) (omega arith))

-- within tolerance exactly where within reserve
pub within_both : (g : Yard) → Sound g → ((e : ℕ) → noted g e ≤ 1440) → ((e : ℕ) → worst g e ≤ tolerance g e) ↔ ((e : ℕ) → noted g e ≤ reserve g e)
unfolding worst
within_both g so small = (
  λ h e. let m = own_all (worst_lawful g so) e in let r = within_reserve g so small h (suc (event_count g - e)) e (omega arith) in omega arith,
  λ h e. let m = least_least g so all_wait (reserve g) (covers g so small h) e in let r = reserve_tolerance g so e in omega arith,
)
