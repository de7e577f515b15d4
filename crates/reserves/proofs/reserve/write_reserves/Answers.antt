use Rattle.std.proofs.Common.{◌-◌, ◌<◌, length, arith}
use Rattle.timetable.proofs.Cells.{one_below, beyond}
use Rattle.reserves.proofs.reserve.write_reserves.Goals as goal

pub loop-e-preserved : goal.loop-e-preserved
loop-e-preserved g c =
    let e = c.loop-e.e - 1 in
    let n = length c.args.day.now.sheet.events.now in
    let lt : e < n = omega (arith, c.loop-e-test.true, c.loop-e.auto.e) in
    let room : e < length c.loop-e.reserves = omega (arith, lt, c.loop-e.auto.reserves, c.requires) in (
      one_below 0 c.loop-e.reserves e c.reserve_at.result n _ room (λ k h. c.loop-e.invariant.0 k (omega arith)) c.reserve_at.ensures,
      beyond 0 c.loop-e.reserves e c.reserve_at.result n c.args.reserves.now lt c.loop-e.invariant.1,
    )
