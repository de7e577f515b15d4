-- Finitely many at a time: the greatest, the least, how many, the first, and a function by its own values elsewhere.
use Rattle.std.specs.Prelude.{◌≡◌, ℕ, zero, suc, ◌+◌, ◌<◌, ◌≤◌, min, max, Bool, true, false, cond, ◌||◌, List, [], ◌∷◌, nat_lt}

-- the greatest of f 0 .. f (n - 1), or 0
unfoldable pub top : ℕ → (ℕ → ℕ) → ℕ
top zero f = 0
top (suc n) f = max (top n f) (f n)

-- the least of x and f 0 .. f (n - 1)
unfoldable pub low : ℕ → (ℕ → ℕ) → ℕ → ℕ
low zero f x = x
low (suc n) f x = min (low n f x) (f n)

-- how many of 0 .. n - 1 pass
unfoldable pub count : ℕ → (ℕ → Bool) → ℕ
count zero t = 0
count (suc n) t = count n t + cond (t n) 1 0

-- the first of 0 .. n - 1 that passes, or n
unfoldable pub first : ℕ → (ℕ → Bool) → ℕ
first zero t = 0
first (suc n) t = cond (nat_lt (first n t) n) (first n t) (cond (t n) n (suc n))

-- k is the lowest below n that passes, or n where none does
pub record Lowest (n : ℕ) (t : ℕ → Bool) (k : ℕ) : Type 0 where
  pub within : k ≤ n
  pub passes : k < n → t k ≡ true
  pub below : (i : ℕ) → i < k → t i ≡ false

-- some of a list passes
unfoldable pub some : (ℕ → Bool) → List ℕ → Bool
some t [] = false
some t (a ∷ s) = t a || some t s

-- a function whose value at a number is had from its values at others, followed `depth` calls deep
unfoldable pub turns : {A : Type 0} → A → ((ℕ → A) → ℕ → A) → ℕ → ℕ → A
turns x step zero e = x
turns x step (suc depth) e = step (turns x step depth) e
