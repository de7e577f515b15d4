use Rattle.std.proofs.Common.{take}
use Rattle.std.specs.Fmt.{IsPlainFormatter, HasWritten}
use Rattle.console.specs.Hands.{slips_line}
use Rattle.console.proofs.hand.SlipsLineDisplay.fmt.Given as goal

-- what is written so far: the line of the slips before this one
abbrev pub invariant-loop-slip : goal.invariant-loop-slip
invariant-loop-slip g l = IsPlainFormatter l.fn.f → HasWritten g.W.Write.write_str_gives l.fn.f (slips_line (take l.slip-index l.self.0.now)) l.f
