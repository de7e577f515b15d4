use Rattle.std.proofs.Common.{take, IfSome}
use Rattle.std.specs.Fmt.{IsPlainFormatter, HasWritten}
use Rattle.words.specs.Rows.{row_of}
use Rattle.words.proofs.row.RowDisplay.fmt.Given as goal

-- what is written so far: the values before this one
abbrev pub invariant-loop-value : goal.invariant-loop-value
invariant-loop-value g l = IsPlainFormatter l.initial.f → IfSome (row_of g.T.Display.output (take l.value-index l.self.0.now)) (λ bs. HasWritten g.W.Write.write_str_gives l.initial.f bs l.f)
