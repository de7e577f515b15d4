use Rattle.std.proofs.Common.{◌≡◌, max, get_or}
use Rattle.model.specs.Finite.{top}
use Rattle.model.specs.Lateness.{brings, least}
use Rattle.timetable.specs.Days.{yard_of}
use Rattle.timetable.proofs.day.Day.lateness_at.Given as goal

abbrev pub invariant-loop-a : goal.invariant-loop-a
invariant-loop-a g l =
    l.most ≡ max (get_or l.self.delays.now l.e 0) (top l.a (brings (yard_of (g.R.Carry.hands l.rule) l.self) (g.C.Choosing.choice l.choosing) (least (yard_of (g.R.Carry.hands l.rule) l.self) (g.C.Choosing.choice l.choosing)) l.e))
