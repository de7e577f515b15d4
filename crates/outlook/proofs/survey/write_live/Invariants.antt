use Rattle.std.proofs.Common.{◌≡◌, ℕ, ◌<◌, ◌≤◌, false, get_or}
use Rattle.model.specs.Meeting.{live}
use Rattle.timetable.specs.Days.{yard_of}
use Rattle.outlook.proofs.survey.write_live.Given as goal

abbrev pub invariant-loop-a : goal.invariant-loop-a
invariant-loop-a g l =
    ((k : ℕ) → k < l.a → get_or l.cell-items k false ≡ live (yard_of (g.R.Carry.hands l.forecast.rule.now) l.forecast.day) k)
    × ((k : ℕ) → l.a ≤ k → get_or l.cell-items k false ≡ get_or l.initial.cell-items k false)
