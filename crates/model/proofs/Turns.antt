-- A recursion whose calls have a smaller measure: the depth does not matter past it.
use Rattle.std.proofs.Common.{◌≡◌, ℕ, zero, suc, ◌<◌, arith}
use Rattle.model.specs.Finite.{turns}

module _ {A : Type 0} (x : A) (step : (ℕ → A) → ℕ → A) (size : ℕ → ℕ) (near : (f h : ℕ → A) (e : ℕ) → ((i : ℕ) → size i < size e → f i ≡ h i) → step f e ≡ step h e) where
  pub turns_same : (k l e : ℕ) → size e < k → size e < l → turns x step k e ≡ turns x step l e
  unfolding turns
  turns_same zero l e h i = absurd (omega arith)
  turns_same (suc k) zero e h i = absurd (omega arith)
  turns_same (suc k) (suc l) e h i = near (turns x step k) (turns x step l) e (λ j s. turns_same k l j (omega arith) (omega arith))

  pub turns_is : (e : ℕ) → turns x step (suc (size e)) e ≡ step (λ i. turns x step (suc (size i)) i) e
  unfolding turns
  turns_is e = near (turns x step (size e)) (λ i. turns x step (suc (size i)) i) e (λ j s. turns_same (size e) (suc (size j)) j (omega arith) (omega arith))
