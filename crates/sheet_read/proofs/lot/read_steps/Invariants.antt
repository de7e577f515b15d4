use Rattle.std.proofs.Common.{◌≡◌, length, None}
use Rattle.sheet_read.specs.Lots.{lot_step, step_on}
use Rattle.sheet_read.proofs.Running.{Filled}
use Rattle.sheet_read.proofs.lot.read_steps.Given as goal

abbrev pub invariant-loop-cell : goal.invariant-loop-cell
invariant-loop-cell l = record {
  filled : Filled (lot_step l.activities l.lot l.initial.left.total) (step_on l.activities) None (length l.initial.steps) l.initial.left.rest.now 0 l.initial.steps l.cell-index l.from l.left.rest.now l.steps;
  total : l.left.total ≡ l.initial.left.total;
}
