use Rattle.std.proofs.Common.{◌∙◌, arith}
use Rattle.std.proofs.Math.Logic.{∥∥₁_elim}
use Rattle.std.proofs.Props.{props}
use Rattle.timetable.proofs.Stances.{leads}
use Rattle.choice.proofs.Deciding.{cheap_so}
use Rattle.choice.proofs.decide.is_cheap.Goals as goal

pub bill_cell-wait-requires : goal.bill_cell-wait-requires
bill_cell-wait-requires g c =
    let d = c.args.priced.now.forecast.now.day in
    ∥∥₁_elim c.args.priced.now.billed (hlevel props) (λ b. omega (arith, leads d c.args.a c.requires, c.from.ensures, b.room))

pub returns : goal.returns
returns g c =
    let p = g.T.Tariff.prices c.args.priced.now.tariff.now in
    let f = c.args.priced.now.forecast.now in
    let rule = g.R.Carry.hands f.rule.now in
    c.at_most.ensures
    ∙ ∥∥₁_elim c.args.priced.now.billed (hlevel props) (λ b. cheap_so rule p f.day c.args.priced.now.bills.now c.args.a c.from.result c.miss_bill.result c.bill_cell-wait.result c.requires b
    c.from.ensures (c.miss_bill.ensures rule) (c.bill_cell-wait.ensures p.tolls.nought))
