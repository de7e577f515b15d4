use Rattle.std.proofs.Common.{◌≡◌}
use Rattle.sheet_read.specs.Records.{record_of}
use Rattle.sheet_read.specs.Numbers.{next_number}
use Rattle.sheet_read.specs.Sections.{placed}
use Rattle.sheet_read.proofs.Running.{Filled}
use Rattle.sheet_read.proofs.section.read_records.Given as goal

abbrev pub invariant-loop-i : goal.invariant-loop-i
invariant-loop-i g l = record {
  filled : Filled (placed (record_of (g.R.RecordRule.makes l.rule) g.row.N) l.section l.initial.left.total) next_number 0 l.count l.initial.left.rest.now 0 l.initial.table l.i l.i l.left.rest.now l.table;
  total : l.left.total ≡ l.initial.left.total;
}
