use Rattle.std.proofs.Common.{◌≡◌, length}
use Rattle.sheet_read.proofs.Lotting.{LotsRead}
use Rattle.sheet_read.proofs.lot.read_lots.Given as goal

abbrev pub invariant-loop-i : goal.invariant-loop-i
invariant-loop-i l = record {
  all_read : LotsRead l.activities l.initial.left.total (length l.initial.steps) l.count l.initial.left.rest.now l.initial.lots l.initial.steps l.i l.used l.left.rest.now l.lots l.steps;
  total : l.left.total ≡ l.initial.left.total;
}
