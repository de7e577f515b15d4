-- The loop adds one lot's charge at a time, and the lots' weights leave room for it.
use Rattle.std.proofs.Common.{length, ap, ◌∙◌, arith}
use Rattle.tariff.specs.Tolls.{cap}
use Rattle.sums.specs.Totals.{lot_weight, paid_at}
use Rattle.sums.proofs.Adding.{nought_light, plus_light, total_none, total_more, weight_fits, weight_more}
use Rattle.sums.proofs.sum.sum_charges.Goals as goal

pub loop-lot-init : goal.loop-lot-init
loop-lot-init g c = (
  c.nought-sum.ensures ∙ total_none _ _,
  nought_light _ (g.met.T.Tariff.lawful c.args.tariff.now).tolls (paid_at lot_weight c.args.lots.now) _ c.nought-sum.ensures,
)

pub add-sum-requires : goal.add-sum-requires
add-sum-requires g c =
    let room = weight_fits (paid_at lot_weight c.args.lots.now) (length c.args.lots.now) c.loop-lot.lot-index cap _ c.requires.room c.loop-lot-test.true c.loop-lot.invariant.1 in
    omega (arith, room, c.charge-due.ensures.light)

pub loop-lot-preserved : goal.loop-lot-preserved
loop-lot-preserved g c = (
  total_more _ _ _ _ _ c.loop-lot.invariant.0 (c.add-sum.ensures ∙ ap ((g.T.Tariff.prices c.args.tariff.now).tolls.plus c.loop-lot.sum) c.charge-due.ensures.answer),
  weight_more (paid_at lot_weight c.args.lots.now) c.loop-lot.lot-index _ _ c.loop-lot.invariant.1
      (plus_light _ (g.met.T.Tariff.lawful c.args.tariff.now).tolls _ _ _ _ c.add-sum.ensures c.charge-due.ensures.light),
)
