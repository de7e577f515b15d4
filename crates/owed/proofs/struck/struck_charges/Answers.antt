use Rattle.std.proofs.Common.{◌∙◌}
use Rattle.bills.proofs.Dues.{each_lot, lots_light, short_day}
use Rattle.owed.proofs.Strikes.{struck_all}
use Rattle.owed.proofs.struck.struck_charges.Goals as goal

pub sum_charges-requires : goal.sum_charges-requires
sum_charges-requires g c = record { able = each_lot c.args.day.now _ (short_day c.args.day.now); room = lots_light c.args.day.now }

pub returns : goal.returns
returns g c = λ rule. c.sum_charges.ensures.answer ∙ struck_all rule c.args.day.now (g.T.Tariff.prices c.args.tariff.now) (g.met.T.Tariff.lawful c.args.tariff.now)
