use Rattle.std.proofs.Common.{◌≡◌, length}
use Rattle.sheet_read.specs.Numbers.{number_in, next_number}
use Rattle.sheet_read.proofs.Running.{Filled}
use Rattle.sheet_read.proofs.unread.Unread.numbers.Given as goal

abbrev pub invariant-loop-cell : goal.invariant-loop-cell
invariant-loop-cell l = record {
  filled : Filled (number_in l.at) next_number 0 (length l.initial.cells) l.initial.left.rest.now 0 l.initial.cells l.cell-index l.cell-index l.left.rest.now l.cells;
  total : l.left.total ≡ l.initial.left.total;
}
