-- A table or a buffer of which some cells are written anew.
use Rattle.std.specs.Prelude.{ℕ, List, ◌++◌, length, take, drop}

-- from cell `at` on the cells hold `new`, and all others what they held
abbrev pub laid : {A : Type 0} → ℕ → List A → List A → List A
laid at new old = take at old ++ (new ++ drop (length new) (drop at old))
