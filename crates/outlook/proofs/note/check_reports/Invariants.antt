use Rattle.std.proofs.Common.{◌≡◌, drop}
use Rattle.sheet.specs.Sheets.{tables_of}
use Rattle.outlook.specs.Reports.{first_fault}
use Rattle.outlook.proofs.note.check_reports.Given as goal

-- none of the reports so far is at fault
abbrev pub invariant-loop-report : goal.invariant-loop-report
invariant-loop-report l = first_fault (tables_of l.sheet) l.reports ≡ first_fault (tables_of l.sheet) (drop l.report-index l.reports)
