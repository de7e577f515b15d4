use Rattle.std.proofs.Common.{◌∙◌}
use Rattle.bills.proofs.Dues.{lots_light}
use Rattle.tolls.proofs.Paid.{each_lot, pay_all}
use Rattle.tolls.proofs.written.toll_of.Goals as goal

pub sum_charges-requires : goal.sum_charges-requires
sum_charges-requires g c = record { able = each_lot c.args.day.now c.args.late.now c.args.gone.now c.requires; room = lots_light c.args.day.now }

pub returns : goal.returns
returns g c = λ rule.
    c.sum_charges.ensures.answer
    ∙ pay_all rule c.args.day.now c.args.late.now c.args.gone.now c.requires (g.T.Tariff.prices c.args.tariff.now) (g.met.T.Tariff.lawful c.args.tariff.now)
