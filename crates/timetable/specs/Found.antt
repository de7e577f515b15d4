-- What a search through 0 .. n - 1 finds.
--
--   found_first    the first number that passes, or none
use Rattle.std.specs.Prelude.{ℕ, Bool, cond, Some, None, Option, nat_lt}
use Rattle.model.specs.Finite.{first}

-- k where it is below n
abbrev pub below : ℕ → ℕ → Option ℕ
below n k = cond (nat_lt k n) (Some k) None

abbrev pub found_first : ℕ → (ℕ → Bool) → Option ℕ
found_first n t = below n (first n t)
