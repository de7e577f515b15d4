use Rattle.std.proofs.Common.{◌∙◌, arith}
use Rattle.std.proofs.Math.Logic.{∥∥₁_elim}
use Rattle.std.proofs.Props.{props}
use Rattle.owed.proofs.Owing.{is_delayed, not_delayed, sum_begun, sum_more, sum_skip, sum_done, add_room}
use Rattle.owed.proofs.by_bills.toll_by_bills.Goals.{then-day-e-gt0, else-day-e-gt0}
use Rattle.owed.proofs.by_bills.toll_by_bills.Goals as goal

pub loop-e-init : goal.loop-e-init
loop-e-init g c = sum_begun (g.T.Tariff.prices c.args.tariff.now) c.args.day.now c.args.cells.now c.struck_charges-sum.result (c.struck_charges-sum.ensures (λ margin lateness. 0))

pub bill_cell-requires : goal.bill_cell-requires
bill_cell-requires g c = ∥∥₁_elim c.requires (hlevel props) (λ q. omega (arith, c.loop-e-test.true, q.billed.room))

pub add-sum-requires : goal.add-sum-requires
add-sum-requires g c =
    let p = g.T.Tariff.prices c.args.tariff.now in
    ∥∥₁_elim c.requires (hlevel props) (λ q. add_room p c.args.day.now c.args.cells.now (g.met.T.Tariff.lawful c.args.tariff.now) q c.loop-e.e c.loop-e.sum c.bill_cell.result c.loop-e-test.true
    (is_delayed c.args.day.now c.loop-e.e c.loop-e-test.true c.if-day-e-gt0.true) c.loop-e.invariant (c.bill_cell.ensures p.tolls.nought))

pub loop-e-preserved : goal.loop-e-preserved
loop-e-preserved g c =
    let p = g.T.Tariff.prices c.args.tariff.now in
    elim c.if-day-e-gt0.branch [
      | then-day-e-gt0 w ↦
          w.sum-is ∙ w.add-sum.ensures
          ∙ sum_more p c.args.day.now c.args.cells.now c.loop-e.e c.loop-e.sum w.bill_cell.result (is_delayed c.args.day.now c.loop-e.e c.loop-e-test.true w.if-day-e-gt0.true) c.loop-e.invariant (w.bill_cell.ensures p.tolls.nought)
      | else-day-e-gt0 w ↦
          w.sum-is ∙ sum_skip p c.args.day.now c.args.cells.now c.loop-e.e c.loop-e.sum (not_delayed c.args.day.now c.loop-e.e c.loop-e-test.true w.if-day-e-gt0.false) c.loop-e.invariant
    ]

pub returns : goal.returns
returns g c = λ rule b.
    sum_done (g.T.Tariff.prices c.args.tariff.now) c.args.day.now c.args.cells.now (g.met.T.Tariff.lawful c.args.tariff.now) rule b c.loop-e.e c.loop-e.sum (omega (arith, c.loop-e-test.false, c.loop-e.auto.e-end)) c.loop-e.invariant
