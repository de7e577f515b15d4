use Rattle.std.proofs.Common.{◌++◌, codes}
use Rattle.std.specs.Fmt.{IsPlainFormatter, HasWritten}
use Rattle.outlook.specs.Lines.{picked_words}
use Rattle.outlook.proofs.lines.LiveLineDisplay.fmt.Given as goal

-- what is written so far: the heading, and those picked before this one
abbrev pub invariant-loop-a : goal.invariant-loop-a
invariant-loop-a g l = IsPlainFormatter l.fn.f → HasWritten g.W.Write.write_str_gives l.fn.f (codes "live" ++ picked_words l.self.0.now l.a-counter) l.f
