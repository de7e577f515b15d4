use Rattle.std.proofs.Common.{◌≡◌, ℕ, ◌<◌, ◌≤◌, length, get_or}
use Rattle.model.specs.Reserves.{reserve}
use Rattle.timetable.specs.Days.{yard_of}
use Rattle.reserves.proofs.reserve.write_reserves.Given as goal

abbrev pub invariant-loop-e : goal.invariant-loop-e
invariant-loop-e g l =
    ((k : ℕ) → l.e ≤ k → k < length l.day.sheet.events.now → get_or l.reserves k 0 ≡ reserve (yard_of (g.R.Carry.hands l.rule) l.day) k)
    × ((k : ℕ) → length l.day.sheet.events.now ≤ k → get_or l.reserves k 0 ≡ get_or l.initial.reserves k 0)
