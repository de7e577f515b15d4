-- The reserves that one is reckoned from.
--
--   ReservedAfter    a table that holds the reserves of the events after one
use Rattle.std.specs.Prelude.{◌≡◌, ℕ, ◌<◌, ◌≤◌, List, length, slice_index}
use Rattle.model.specs.Reserves.{reserve}
use Rattle.timetable.specs.declared.day.Day.{Day}
use Rattle.timetable.specs.Days.{yard_of}

pub record ReservedAfter (rule : ℕ → ℕ → ℕ) (d : Day) (e : ℕ) (reserves : List ℕ) : Type 0 where
  pub room : length d.sheet.events.now ≤ length reserves
  pub holds : (k : ℕ) → e < k → k < length d.sheet.events.now → slice_index reserves k ≡ reserve (yard_of rule d) k
