use Rattle.std.proofs.Common.{◌≡◌}
use Rattle.model.specs.Finite.{low}
use Rattle.model.specs.Reserves.{tolerance}
use Rattle.timetable.specs.Days.{yard_of}
use Rattle.reserves.proofs.Leavings.{leaves_over}
use Rattle.reserves.proofs.reserve.reserve_at.Given as goal

abbrev pub invariant-loop-a : goal.invariant-loop-a
invariant-loop-a g l =
    let y = yard_of (g.R.Carry.hands l.rule) l.day in
    l.least ≡ low l.a (leaves_over y l.e) (tolerance y l.e)
