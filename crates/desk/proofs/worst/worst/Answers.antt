use Rattle.std.proofs.lemmas.Result.{err_from_is_err_and}
use Rattle.sheet.specs.Sheets.{tables_of}
use Rattle.desk.proofs.Lines.{spoiled}
use Rattle.desk.proofs.worst.worst.Goals as goal

pub returns : goal.returns
returns c =
    let sheet = c.in_ok-sheet.sheet in
    let text = c.in_ok-text.ensures in
    record { foreseen = record { sheet = tables_of sheet; kept = sheet.kept; read = c.in_ok-sheet.ensures.read; taken = text.taken; told = text.told }; blames = tt }

pub returns-in_err-text : goal.returns-in_err-text
returns-in_err-text c =
    let p = err_from_is_err_and c.from_residual-in_err-text.result c.from_residual-in_err-text.ensures.1 in
    let sheet = c.in_ok-sheet.sheet in
    rw (p.1, p.2) (record {
      foreseen = tt;
      blames = spoiled _ c.args.bytes.now c.args.reports.now (tables_of sheet) sheet.kept c.in_ok-sheet.ensures.read c.in_err-text.field-0.0 c.in_err-text.ensures.spoils;
    })
