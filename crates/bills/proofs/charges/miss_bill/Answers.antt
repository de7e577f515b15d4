use Rattle.std.proofs.Common.{◌∙◌}
use Rattle.bills.proofs.Dues.{each_lot, lots_light, short_day, miss_all}
use Rattle.bills.proofs.charges.miss_bill.Goals as goal

pub sum_charges-requires : goal.sum_charges-requires
sum_charges-requires g c = record { able = each_lot c.args.day.now _ (short_day c.args.day.now); room = lots_light c.args.day.now }

pub returns : goal.returns
returns g c = λ rule.
    let p = g.T.Tariff.prices c.args.tariff.now in
    c.sum_charges.ensures.answer ∙ miss_all rule c.args.day.now p (g.met.T.Tariff.lawful c.args.tariff.now) c.args.a
