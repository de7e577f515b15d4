use Rattle.std.proofs.Common.{refl, ◌∙◌, arith}
use Rattle.bills.proofs.Down.{billed_past, same_length, billed_more, beyond_same}
use Rattle.bills.proofs.column.Bills.fill.Goals as goal

pub loop-e-init : goal.loop-e-init
loop-e-init g c = (record { room = c.requires; holds = λ k h w. absurd (omega (arith, h, w)) }, λ other k h. refl, refl, refl)

pub write_bill-requires : goal.write_bill-requires
write_bill-requires g c = record {
  within = omega arith;
  after = billed_past (g.R.Carry.hands c.args.ahead.now.forecast.rule.now) (g.T.Tariff.prices c.args.tariff.now) c.args.ahead.now.forecast.day c.loop-e.self.cells.now c.loop-e.e (omega arith) c.loop-e.invariant.0;
}

pub loop-e-preserved : goal.loop-e-preserved
loop-e-preserved g c =
    let rule = g.R.Carry.hands c.args.ahead.now.forecast.rule.now in
    let p = g.T.Tariff.prices c.args.tariff.now in
    let cells = c.loop-e.self.cells.now in
    let after = c.write_bill.new.cells in
    let b = c.loop-e.invariant.0 in (
      billed_more rule p c.args.ahead.now.forecast.day cells c.loop-e.e (omega arith) b after c.write_bill.ensures (omega arith),
      beyond_same rule p c.args.ahead.now.forecast.day cells c.loop-e.e (omega arith) b after c.write_bill.ensures _ (omega arith) c.loop-e.invariant.1,
      same_length rule p c.args.ahead.now.forecast.day cells c.loop-e.e (omega arith) b after c.write_bill.ensures ∙ c.loop-e.invariant.2,
      c.loop-e.invariant.3,
    )

pub returns : goal.returns
returns g c =
    let b = c.loop-e.invariant.0 in
    record {
      billed = record { room = b.room; holds = λ k h w. b.holds k (omega arith) w };
      beyond = c.loop-e.invariant.1;
      long = c.loop-e.invariant.2;
      kept = c.loop-e.invariant.3;
    }
