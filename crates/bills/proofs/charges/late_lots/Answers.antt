use Rattle.std.proofs.Common.{◌∙◌}
use Rattle.bills.proofs.Dues.{each_lot, lots_light, late_all}
use Rattle.bills.proofs.charges.late_lots.Goals as goal

pub sum_charges-requires : goal.sum_charges-requires
sum_charges-requires g c = record { able = each_lot c.args.day.now _ c.requires.short.1; room = lots_light c.args.day.now }

pub returns : goal.returns
returns g c = λ rule w.
    let p = g.T.Tariff.prices c.args.tariff.now in
    c.sum_charges.ensures.answer ∙ late_all rule c.args.day.now p (g.met.T.Tariff.lawful c.args.tariff.now) c.args.e _ (w.holds c.args.e c.requires.within)
