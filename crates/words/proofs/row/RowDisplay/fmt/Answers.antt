use Rattle.words.proofs.Showing.{written_next}
use Rattle.words.proofs.row.RowDisplay.fmt.Goals as goal

pub loop-value-preserved : goal.loop-value-preserved
loop-value-preserved g c = λ plain.
    written_next g.W.Write.write_str_gives c.args.f.now c.loop-value.f c.write.new.self g.T.Display.output c.args.self.now.0.now c.loop-value.value-index c.value-item.result
    c.loop-value-test.true c.value-item.is (c.loop-value.invariant plain) c.in_ok-write.field-0 c.in_ok-write.ensures.writes
