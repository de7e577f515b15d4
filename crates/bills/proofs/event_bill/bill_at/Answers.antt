use Rattle.std.proofs.Common.{sym, ◌∙◌, arith}
use Rattle.timetable.proofs.Loops.{worst_short}
use Rattle.timetable.proofs.Stances.{leads}
use Rattle.bills.proofs.Room.{due_so, bill_begun, bill_more, bill_skip, add_room, bill_done}
use Rattle.bills.proofs.event_bill.bill_at.Goals.{then-goes_on, else-goes_on}
use Rattle.bills.proofs.event_bill.bill_at.Goals as goal

pub late_lots-sum-requires : goal.late_lots-sum-requires
late_lots-sum-requires g c =
    let f = c.args.ahead.now.forecast in
    let s = worst_short (g.R.Carry.hands f.rule.now) f.day (g.met.R.Carry.lawful f.rule.now) c.args.e in
    record { within = c.requires.within; short = (omega (arith, f.holds.room, c.requires.within), omega (arith, s, f.holds.holds c.args.e c.requires.within)) }

pub loop-a-init : goal.loop-a-init
loop-a-init g c =
    let rule = g.R.Carry.hands c.args.ahead.now.forecast.rule.now in
    let p = g.T.Tariff.prices c.args.tariff.now in
    let lawful = g.met.R.Carry.lawful c.args.ahead.now.forecast.rule.now in
    let fair = g.met.T.Tariff.lawful c.args.tariff.now in
    c.late_lots-sum.ensures rule c.args.ahead.now.forecast.holds ∙ bill_begun rule p c.args.ahead.now.forecast.day lawful fair c.args.ahead.now.clear c.args.e

pub bill_cell-wait-requires : goal.bill_cell-wait-requires
bill_cell-wait-requires g c =
    let l = leads c.args.ahead.now.forecast.day c.loop-a.a c.loop-a-test.true in
    omega (arith, l.1, c.from.ensures, c.requires.after.room)

pub add-sum-requires : goal.add-sum-requires
add-sum-requires g c =
    let rule = g.R.Carry.hands c.args.ahead.now.forecast.rule.now in
    let p = g.T.Tariff.prices c.args.tariff.now in
    let lawful = g.met.R.Carry.lawful c.args.ahead.now.forecast.rule.now in
    let fair = g.met.T.Tariff.lawful c.args.tariff.now in
    let t = sym c.goes_on.ensures ∙ c.if-goes_on.true in
    let u = due_so rule p c.args.ahead.now.forecast.day lawful fair c.args.ahead.now.clear c.args.e c.loop-a.a c.from.result c.args.cells.now c.bill_cell-wait.result c.lesser_bill.result
    c.requires.after c.loop-a-test.true t c.from.ensures (c.bill_cell-wait.ensures p.tolls.nought) (c.lesser_bill.ensures rule) in
    add_room rule p c.args.ahead.now.forecast.day lawful fair c.args.ahead.now.clear c.args.e c.loop-a.a c.loop-a.sum c.lesser_bill.result c.loop-a-test.true t c.loop-a.invariant u

pub loop-a-preserved : goal.loop-a-preserved
loop-a-preserved g c =
    let rule = g.R.Carry.hands c.args.ahead.now.forecast.rule.now in
    let p = g.T.Tariff.prices c.args.tariff.now in
    let lawful = g.met.R.Carry.lawful c.args.ahead.now.forecast.rule.now in
    let fair = g.met.T.Tariff.lawful c.args.tariff.now in
    elim c.if-goes_on.branch [
      | then-goes_on w ↦
          (let t = sym c.goes_on.ensures ∙ w.if-goes_on.true in
          let u = due_so rule p c.args.ahead.now.forecast.day lawful fair c.args.ahead.now.clear c.args.e c.loop-a.a w.from.result c.args.cells.now w.bill_cell-wait.result w.lesser_bill.result
          c.requires.after c.loop-a-test.true t w.from.ensures (w.bill_cell-wait.ensures p.tolls.nought) (w.lesser_bill.ensures rule) in
          w.sum-is ∙ w.add-sum.ensures ∙ bill_more rule p c.args.ahead.now.forecast.day lawful fair c.args.ahead.now.clear c.args.e c.loop-a.a c.loop-a.sum w.lesser_bill.result t c.loop-a.invariant u)
      | else-goes_on w ↦ w.sum-is ∙ bill_skip rule p c.args.ahead.now.forecast.day lawful fair c.args.ahead.now.clear c.args.e c.loop-a.a c.loop-a.sum (sym c.goes_on.ensures ∙ w.if-goes_on.false) c.loop-a.invariant
    ]

pub returns : goal.returns
returns g c =
    let rule = g.R.Carry.hands c.args.ahead.now.forecast.rule.now in
    let p = g.T.Tariff.prices c.args.tariff.now in
    let lawful = g.met.R.Carry.lawful c.args.ahead.now.forecast.rule.now in
    let fair = g.met.T.Tariff.lawful c.args.tariff.now in
    bill_done rule p c.args.ahead.now.forecast.day lawful fair c.args.ahead.now.clear c.args.e c.loop-a.a c.loop-a.sum (omega (arith, c.loop-a-test.false, c.loop-a.auto.a-end)) c.loop-a.invariant
