use Rattle.std.proofs.Common.{refl}
use Rattle.std.proofs.Output.{has_written_append, has_written_of_eq}
use Rattle.console.proofs.Telling.{slips_next}
use Rattle.console.proofs.hand.SlipsLineDisplay.fmt.Goals as goal

pub loop-slip-preserved : goal.loop-slip-preserved
loop-slip-preserved g c = λ plain.
    let before = c.loop-slip.invariant plain in
    let now = c.in_ok-write-2.ensures.writes before.plain refl in
    has_written_of_eq g.W.Write.write_str_gives _ _ _ _ (slips_next c.args.self.now.0.now c.loop-slip.slip-index c.activity-activity.result c.activity-activity.ensures c.loop-slip-test.true) (has_written_append g.W.Write.write_str_gives _ _ _ _ _ before now)
