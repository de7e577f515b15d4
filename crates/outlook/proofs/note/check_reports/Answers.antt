use Rattle.std.proofs.lemmas.Result.{err_from_is_err_and}
use Rattle.sheet.specs.Sheets.{tables_of}
use Rattle.outlook.proofs.Noting.{fault_here, fault_later, no_fault}
use Rattle.outlook.proofs.note.check_reports.Goals as goal

pub returns-in_err-check_report : goal.returns-in_err-check_report
returns-in_err-check_report c =
    let p = err_from_is_err_and c.from_residual.result c.from_residual.ensures.1 in
    rw (p.1, p.2) (fault_here (tables_of c.args.sheet.now) c.args.reports.now c.loop-report.report-index c.loop-report-test.true c.loop-report.invariant _ c.in_err-check_report.ensures)

pub loop-report-preserved : goal.loop-report-preserved
loop-report-preserved c = fault_later (tables_of c.args.sheet.now) c.args.reports.now c.loop-report.report-index c.loop-report-test.true c.loop-report.invariant c.in_ok-check_report.ensures

pub returns : goal.returns
returns c = no_fault (tables_of c.args.sheet.now) c.args.reports.now c.loop-report.report-index c.loop-report-test.false c.loop-report.invariant
