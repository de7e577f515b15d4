use Rattle.std.proofs.Common.{◌≡◌}
use Rattle.model.specs.Tolls.{fares_of}
use Rattle.model.proofs.Rooms.{acts_loop}
use Rattle.timetable.specs.Days.{yard_of}
use Rattle.bills.proofs.event_bill.bill_at.Given as goal

abbrev pub invariant-loop-a : goal.invariant-loop-a
invariant-loop-a g l =
    let y = yard_of (g.R.Carry.hands l.ahead.forecast.rule.now) l.ahead.forecast.day in
    let p = g.T.Tariff.prices l.tariff in
    l.sum ≡ acts_loop y p.tolls (fares_of p y) l.e l.a
