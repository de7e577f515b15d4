use Rattle.std.proofs.Common.{sym, ap, ◌∙◌, ⊎_elim}
use Rattle.std.proofs.lemmas.Bool.{cond-true, cond-false}
use Rattle.timetable.proofs.Stances.{decided}
use Rattle.bills.proofs.Room.{lesser_open, lesser_bound}
use Rattle.bills.proofs.event_bill.lesser_bill.Goals as goal

pub returns-then-at_most : goal.returns-then-at_most
returns-then-at_most g c = λ rule.
    let p = g.T.Tariff.prices c.args.tariff.now in
    sym (cond-true (p.tolls.at_most c.miss_bill-miss.result c.args.wait) c.miss_bill-miss.result c.args.wait (sym c.if-at_most.ensures))
    ∙ lesser_open rule p c.args.day.now c.args.a c.stance.result c.stance.ensures c.args.wait c.miss_bill-miss.result (ap decided c.in-Open.is) (c.miss_bill-miss.ensures rule)

pub returns-else-at_most : goal.returns-else-at_most
returns-else-at_most g c = λ rule.
    let p = g.T.Tariff.prices c.args.tariff.now in
    sym (cond-false (p.tolls.at_most c.miss_bill-miss.result c.args.wait) c.miss_bill-miss.result c.args.wait (sym c.if-at_most.ensures))
    ∙ lesser_open rule p c.args.day.now c.args.a c.stance.result c.stance.ensures c.args.wait c.miss_bill-miss.result (ap decided c.in-Open.is) (c.miss_bill-miss.ensures rule)

pub returns-in-Bound : goal.returns-in-Bound
returns-in-Bound g c = λ rule.
    lesser_bound rule (g.T.Tariff.prices c.args.tariff.now) c.args.day.now c.args.a c.stance.result c.stance.ensures c.args.wait (⊎_elim (ap decided) (ap decided) c.in-Bound.is)
