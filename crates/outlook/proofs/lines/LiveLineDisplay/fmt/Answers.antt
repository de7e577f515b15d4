use Rattle.std.proofs.Common.{refl}
use Rattle.std.proofs.Output.{has_written_append, has_written_of_eq, has_written_to_eq}
use Rattle.outlook.proofs.Telling.{live_none, live_more, live_skip}
use Rattle.outlook.proofs.lines.LiveLineDisplay.fmt.Goals.{then-live+in_ok-write-2, else-live}
use Rattle.outlook.proofs.lines.LiveLineDisplay.fmt.Goals as goal

pub loop-a-init : goal.loop-a-init
loop-a-init g c = λ plain. has_written_of_eq g.W.Write.write_str_gives _ _ _ _ (live_none c.args.self.now.0.now) (c.in_ok-write.ensures.writes plain refl)

pub loop-a-preserved : goal.loop-a-preserved
loop-a-preserved g c = λ plain.
    let before = c.loop-a.invariant plain in
    elim c.if-live.branch [
      | then-live+in_ok-write-2 w ↦
          let now = w.in_ok-write-2.ensures.writes before.plain refl in
          has_written_to_eq g.W.Write.write_str_gives _ _ _ _ w.f-is (has_written_of_eq g.W.Write.write_str_gives _ _ _ _ (live_more c.args.self.now.0.now c.loop-a.a-counter w.if-live.true) (has_written_append g.W.Write.write_str_gives _ _ _ _ _ before now))
      | else-live w ↦
          has_written_to_eq g.W.Write.write_str_gives _ _ _ _ w.f-is (has_written_of_eq g.W.Write.write_str_gives _ _ _ _ (live_skip c.args.self.now.0.now c.loop-a.a-counter w.if-live.false) before)
    ]
