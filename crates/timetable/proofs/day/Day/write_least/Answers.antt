use Rattle.std.proofs.Common.{◌<◌, length, arith}
use Rattle.timetable.proofs.Cells.{one_more, past}
use Rattle.timetable.proofs.day.Day.write_least.Goals as goal

pub loop-e-preserved : goal.loop-e-preserved
loop-e-preserved g c =
    let room : c.loop-e.e < length c.loop-e.late = omega (arith, c.loop-e-test.true, c.loop-e.auto.late, c.requires.room) in (
      one_more 0 c.loop-e.late c.loop-e.e c.lateness_at.result _ room c.loop-e.invariant.0 c.lateness_at.ensures,
      past 0 c.loop-e.late c.loop-e.e c.lateness_at.result c.args.late.now c.loop-e.invariant.1,
    )
