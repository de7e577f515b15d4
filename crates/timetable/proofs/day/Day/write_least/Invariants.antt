use Rattle.std.proofs.Common.{◌≡◌, ℕ, ◌<◌, ◌≤◌, get_or}
use Rattle.model.specs.Lateness.{least}
use Rattle.timetable.specs.Days.{yard_of}
use Rattle.timetable.proofs.day.Day.write_least.Given as goal

abbrev pub invariant-loop-e : goal.invariant-loop-e
invariant-loop-e g l =
    ((k : ℕ) → k < l.e → get_or l.late k 0 ≡ least (yard_of (g.R.Carry.hands l.rule) l.self) (g.C.Choosing.choice l.choosing) k)
    × ((k : ℕ) → l.e ≤ k → get_or l.late k 0 ≡ get_or l.initial.late k 0)
