-- What every board keeps.
--
--   Timely     no delay passes the period
--   is_idle    no trial is under way
use Rattle.std.specs.Prelude.{ℕ, ◌≤◌, Bool, true, false, List, Some, None, Option, slice_index}

abbrev pub Timely : ℕ → List ℕ → Type 0
Timely period delays = (k : ℕ) → slice_index delays k ≤ period

abbrev pub is_idle : Option ℕ → Bool
is_idle None = true
is_idle (Some a) = false
