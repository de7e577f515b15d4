use Rattle.bills.proofs.Room.{leaves, stays}
use Rattle.bills.proofs.event_bill.goes_on.Goals as goal

pub returns-then-from-e : goal.returns-then-from-e
returns-then-from-e g c = leaves (g.R.Carry.hands c.args.forecast.now.rule.now) c.args.forecast.now.day c.args.e c.args.a c.from.result c.from.ensures c.is_live.result c.if-from-e.true c.is_live.ensures

pub returns-else-from-e : goal.returns-else-from-e
returns-else-from-e g c = stays (g.R.Carry.hands c.args.forecast.now.rule.now) c.args.forecast.now.day c.args.e c.args.a c.from.result c.from.ensures c.if-from-e.false
