use Rattle.std.proofs.Common.{sym}
use Rattle.timetable.proofs.Hindrances.{clear_of}
use Rattle.timetable.proofs.forecast.Forecast.plannable.Goals as goal

pub invariant_of-result : goal.invariant_of-result
invariant_of-result g c = record { clear = clear_of _ (sym c.in_ok-clear.ensures) }
