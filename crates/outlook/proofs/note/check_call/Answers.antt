use Rattle.std.proofs.Common.{inl, inr}
use Rattle.std.proofs.lemmas.Result.{err_from_is_err_and}
use Rattle.sheet.specs.Sheets.{tables_of}
use Rattle.outlook.proofs.Noting.{refused_first, refused_short, refused_not}
use Rattle.outlook.proofs.note.check_call.Goals.{then-late_cells-sheet-via-then-late_cells-sheet, then-late_cells-sheet-via-else-late_cells-sheet+then-live_cells-sheet}
use Rattle.outlook.proofs.note.check_call.Goals as goal

pub returns-in_err-check_reports : goal.returns-in_err-check_reports
returns-in_err-check_reports c =
    let p = err_from_is_err_and c.from_residual.result c.from_residual.ensures.1 in
    rw (p.1, p.2) (refused_first (tables_of c.args.sheet.now) c.args.reports.now c.args.late_cells c.args.live_cells _ c.in_err-check_reports.ensures)

pub returns-then-late_cells-sheet : goal.returns-then-late_cells-sheet
returns-then-late_cells-sheet c =
    refused_short (tables_of c.args.sheet.now) c.args.reports.now c.args.late_cells c.args.live_cells c.in_ok-check_reports.ensures
    (elim c.then-late_cells-sheet.branch [
      | then-late_cells-sheet-via-then-late_cells-sheet w ↦ inl w.if-late_cells-sheet.true
      | then-late_cells-sheet-via-else-late_cells-sheet+then-live_cells-sheet w ↦ inr w.if-live_cells-sheet.true
    ])

pub returns : goal.returns
returns c =
    refused_not (tables_of c.args.sheet.now) c.args.reports.now c.args.late_cells c.args.live_cells c.in_ok-check_reports.ensures
    c.if-late_cells-sheet.false c.if-live_cells-sheet.false
