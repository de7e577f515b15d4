-- The greatest of finitely many numbers.
use Rattle.std.proofs.Common.{◌≡◌, ℕ, zero, suc, ◌<◌, ◌≤◌, max, Bool, true, false, ◌⊎◌, refl, ap, ◌∙◌, inl, inr, arith}
use Rattle.std.proofs.lemmas.Bool.{cases_eq, cases_Bool}
use Rattle.model.specs.Finite.{top}

pub top_le : (n : ℕ) (f : ℕ → ℕ) (x : ℕ) → ((i : ℕ) → i < n → f i ≤ x) → top n f ≤ x
unfolding top
top_le zero f x h = omega arith
top_le (suc n) f x h =
    let rest : top n f ≤ x = top_le n f x (λ i k. h i (omega arith)) in
    let here : f n ≤ x = h n (omega arith) in
    omega arith

pub le_top : (n : ℕ) (f : ℕ → ℕ) (i : ℕ) → i < n → f i ≤ top n f
unfolding top
le_top zero f i h = omega arith
le_top (suc n) f i h = go (cases_eq i n) (λ k. le_top n f i k)
  where
    go : (i ≡ n) ⊎ (i ≡ n → ⊥) → (i < n → f i ≤ top n f) → f i ≤ max (top n f) (f n)
    go (inl e) r = let p : f i ≡ f n = ap f e in omega arith
    go (inr ne) r = let p : f i ≤ top n f = r (omega arith) in omega arith

pub top_same : (n : ℕ) (f h : ℕ → ℕ) → ((i : ℕ) → i < n → f i ≡ h i) → top n f ≡ top n h
unfolding top
top_same zero f h s = refl
top_same (suc n) f h s =
    let rest : top n f ≡ top n h = top_same n f h (λ i k. s i (omega arith)) in
    let here : f n ≡ h n = s n (omega arith) in
    cc

-- a test among the first n passes, or each fails
pub found : (n : ℕ) (p : ℕ → Bool) → ((a : ℕ) × (a < n) × (p a ≡ true)) ⊎ ((a : ℕ) → a < n → p a ≡ false)
found zero p = inr (λ a h. absurd (omega arith))
found (suc n) p = go (found n p) (cases_Bool (p n))
  where
    here : p n ≡ false → ((a : ℕ) → a < n → p a ≡ false) → (a : ℕ) → a < suc n → (a ≡ n) ⊎ (a ≡ n → ⊥) → p a ≡ false
    here f r a h (inl e) = ap p e ∙ f
    here f r a h (inr ne) = r a (omega arith)

    go : ((a : ℕ) × (a < n) × (p a ≡ true)) ⊎ ((a : ℕ) → a < n → p a ≡ false) → (p n ≡ true) ⊎ (p n ≡ false) → ((a : ℕ) × (a < suc n) × (p a ≡ true)) ⊎ ((a : ℕ) → a < suc n → p a ≡ false)
    go (inl r) t = inl (r.0, omega arith, r.2)
    go (inr r) (inl t) = inl (n, omega arith, t)
    go (inr r) (inr f) = inr (λ a h. here f r a h (cases_eq a n))

-- what holds of a number where it holds of all below holds of all
pub by_below : (P : ℕ → Type 0) → ((e : ℕ) → ((k : ℕ) → k < e → P k) → P e) → (e : ℕ) → P e
by_below P step e = go (suc e) e (omega arith)
  where
    go : (n k : ℕ) → k < n → P k
    go zero k h = absurd (omega arith)
    go (suc n) k h = step k (λ i l. go n i (omega arith))
