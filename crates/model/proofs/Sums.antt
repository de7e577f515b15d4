-- Finite sums of tolls.
use Rattle.std.proofs.Common.{◌≡◌, ℕ, zero, suc, ◌<◌, Bool, true, false, eqb, ◌⊎◌, sym, refl, ap, ◌∙◌, inl, inr, arith}
use Rattle.std.proofs.lemmas.Bool.{cases_eq, ne_eqb, eq-eqb}
use Rattle.model.proofs.Ground.{Le, self}
use Rattle.model.specs.Tolls.{given}
use Rattle.sums.specs.Totals.{total}
use Rattle.tariff.specs.Tolls.{LawfulTolls, Tolls}

module _ {A : Type 0} {p : Tolls A} (q : LawfulTolls p) where
  pub right : (x : A) → p.plus x p.nought ≡ x
  right x = q.comm x p.nought ∙ q.neutral x

  pub lcomm : (x y z : A) → p.plus x (p.plus y z) ≡ p.plus y (p.plus x z)
  lcomm x y z = sym (q.assoc x y z) ∙ ap (λ t. p.plus t z) (q.comm x y) ∙ q.assoc y x z

  pub cross : (a b c d : A) → p.plus (p.plus a b) (p.plus c d) ≡ p.plus (p.plus a c) (p.plus b d)
  cross a b c d = simp (q.assoc, q.comm, lcomm)

  pub both_le : (a b c d : A) → Le p a b → Le p c d → Le p (p.plus a c) (p.plus b d)
  both_le a b c d h k =
      let u = q.shift a b c h in
      let v : Le p (p.plus b c) (p.plus b d) = rw (q.comm b c, q.comm b d) (q.shift c d b k) in
      q.trans _ _ _ u v

  pub sum_same : (n : ℕ) (f h : ℕ → A) → ((i : ℕ) → i < n → f i ≡ h i) → total p n f ≡ total p n h
  unfolding total
  sum_same zero f h s = refl
  sum_same (suc n) f h s =
      let rest : total p n f ≡ total p n h = sum_same n f h (λ i k. s i (omega arith)) in
      let here : f n ≡ h n = s n (omega arith) in
      cc

  pub sum_le : (n : ℕ) (f h : ℕ → A) → ((i : ℕ) → i < n → Le p (f i) (h i)) → Le p (total p n f) (total p n h)
  unfolding total
  sum_le zero f h s = self q p.nought
  sum_le (suc n) f h s = both_le _ _ _ _ (sum_le n f h (λ i k. s i (omega arith))) (s n (omega arith))

  pub sum_none : (n : ℕ) (f : ℕ → A) → ((i : ℕ) → i < n → f i ≡ p.nought) → total p n f ≡ p.nought
  unfolding total
  sum_none zero f s = refl
  sum_none (suc n) f s =
      let rest : total p n f ≡ p.nought = sum_none n f (λ i k. s i (omega arith)) in
      let here : f n ≡ p.nought = s n (omega arith) in
      cc (q.neutral p.nought)

  pub sum_plus : (n : ℕ) (f h : ℕ → A) → total p n (λ i. p.plus (f i) (h i)) ≡ p.plus (total p n f) (total p n h)
  unfolding total
  sum_plus zero f h = sym (q.neutral p.nought)
  sum_plus (suc n) f h = ap (λ t. p.plus t (p.plus (f n) (h n))) (sum_plus n f h) ∙ cross (total p n f) (total p n h) (f n) (h n)

  pub sum_swap : (n m : ℕ) (f : ℕ → ℕ → A) → total p n (λ i. total p m (λ j. f i j)) ≡ total p m (λ j. total p n (λ i. f i j))
  unfolding total
  sum_swap zero m f = sym (sum_none m (λ j. p.nought) (λ i k. refl))
  sum_swap (suc n) m f =
      ap (λ t. p.plus t (total p m (λ j. f n j))) (sum_swap n m f)
      ∙ sym (sum_plus m (λ j. total p n (λ i. f i j)) (λ j. f n j))

  pub given_sum : (b : Bool) (n : ℕ) (f : ℕ → A) → given p b (total p n f) ≡ total p n (λ i. given p b (f i))
  given_sum true n f = refl
  given_sum false n f = sym (sum_none n (λ i. p.nought) (λ i k. refl))

  pub given_plus : (b : Bool) (x y : A) → given p b (p.plus x y) ≡ p.plus (given p b x) (given p b y)
  given_plus true x y = refl
  given_plus false x y = sym (q.neutral p.nought)

  -- all but one are nothing
  pub sum_one : (n : ℕ) (f : ℕ → A) (a : ℕ) → a < n → ((i : ℕ) → i < n → (i ≡ a → ⊥) → f i ≡ p.nought) → total p n f ≡ f a
  unfolding total
  sum_one zero f a h s = absurd (omega arith)
  sum_one (suc n) f a h s = go (cases_eq a n) (λ k. sum_one n f a k (λ i j. s i (omega arith)))
    where
      go : (a ≡ n) ⊎ (a ≡ n → ⊥) → (a < n → total p n f ≡ f a) → p.plus (total p n f) (f n) ≡ f a
      go (inl e) r =
          let rest : total p n f ≡ p.nought = sum_none n f (λ i k. s i (omega arith) (λ w. omega arith)) in
          ap (λ t. p.plus t (f n)) rest ∙ q.neutral (f n) ∙ ap f (sym e)
      go (inr ne) r =
          let here : f n ≡ p.nought = s n (omega arith) (λ w. ne (sym w)) in
          ap (p.plus (total p n f)) here ∙ right (total p n f) ∙ r (omega arith)

  pub sum_at : (n : ℕ) (f : ℕ → A) (a : ℕ) → a < n → total p n (λ i. given p (eqb i a) (f i)) ≡ f a
  sum_at n f a h =
      sum_one n (λ i. given p (eqb i a) (f i)) a h (λ i k ne. ap (λ b. given p b (f i)) (ne_eqb i a ne))
      ∙ ap (λ b. given p b (f a)) (eq-eqb a a refl)
