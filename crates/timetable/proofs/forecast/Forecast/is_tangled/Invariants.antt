use Rattle.std.proofs.Common.{ltb, drop}
use Rattle.model.specs.Lateness.{worst}
use Rattle.model.specs.Lots.{finish}
use Rattle.timetable.specs.Days.{yard_of}
use Rattle.timetable.proofs.Ways.{Scanned}
use Rattle.timetable.proofs.forecast.Forecast.is_tangled.Given as goal

abbrev pub invariant-loop-step : goal.invariant-loop-step
invariant-loop-step g l =
    let y = yard_of (g.R.Carry.hands l.self.rule.now) l.self.day in
    Scanned y (ltb 0 (worst y (finish y l.steps))) l.passed.hot l.passed.gap l.passed.again (drop l.step-index l.steps) l.steps
