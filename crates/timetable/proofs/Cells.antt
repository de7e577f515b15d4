-- Cells written one after another, told cell by cell.
use Rattle.std.proofs.Common.{◌≡◌, ℕ, ◌+◌, ◌<◌, ◌≤◌, ◌≢◌, ◌⊎◌, List, length, get_or, set, sym, ap, ◌∙◌, inl, inr, arith, get_or-set_other, get_or-set_same, below_more}
use Rattle.std.proofs.lemmas.Bool.{cases_eq}

module _ {X : Type 0} (d : X) (cells : List X) (i : ℕ) (x : X) where
  -- the cells below i hold f, and now the one at i too
  pub one_more : (f : ℕ → X) → i < length cells → ((k : ℕ) → k < i → get_or cells k d ≡ f k) → x ≡ f i → (k : ℕ) → k < i + 1 → get_or (set cells i x) k d ≡ f k
  one_more f lt below here =
      below_more (λ k. get_or (set cells i x) k d ≡ f k) i
      (λ k h. let ne : k ≢ i = omega arith in get_or-set_other cells i k x d ne ∙ below k h)
      (get_or-set_same cells i x d lt ∙ here)

  -- those past i are as they were
  pub past : (old : List X) → ((k : ℕ) → i ≤ k → get_or cells k d ≡ get_or old k d) → (k : ℕ) → i + 1 ≤ k → get_or (set cells i x) k d ≡ get_or old k d
  past old above k h = let ne : k ≢ i = omega arith in get_or-set_other cells i k x d ne ∙ above k (omega arith)

-- from the last cell down
module _ {X : Type 0} (d : X) (cells : List X) (i : ℕ) (x : X) (n : ℕ) where
  -- the cells after i and below n hold f, and now the one at i too
  pub one_below : (f : ℕ → X) → i < length cells → ((k : ℕ) → i < k → k < n → get_or cells k d ≡ f k) → x ≡ f i → (k : ℕ) → i ≤ k → k < n → get_or (set cells i x) k d ≡ f k
  one_below f lt above here k h w = go (cases_eq k i)
    where
      go : (k ≡ i) ⊎ (k ≡ i → ⊥) → get_or (set cells i x) k d ≡ f k
      go (inl e) = ap (λ (j : ℕ). get_or (set cells i x) j d) e ∙ get_or-set_same cells i x d lt ∙ here ∙ sym (ap f e)
      go (inr ne) = get_or-set_other cells i k x d ne ∙ above k (omega arith) w

  -- those from n on are as they were
  pub beyond : (old : List X) → i < n → ((k : ℕ) → n ≤ k → get_or cells k d ≡ get_or old k d) → (k : ℕ) → n ≤ k → get_or (set cells i x) k d ≡ get_or old k d
  beyond old lt same k h = let ne : k ≢ i = omega arith in get_or-set_other cells i k x d ne ∙ same k h
