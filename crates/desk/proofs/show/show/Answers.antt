use Rattle.sheet.specs.Sheets.{tables_of}
use Rattle.desk.proofs.show.show.Goals as goal

pub returns : goal.returns
returns c =
    let sheet = c.in_ok-sheet.sheet in
    record { shown = record { sheet = tables_of sheet; kept = sheet.kept; read = c.in_ok-sheet.ensures.read; listed = c.in_ok-text.ensures }; blames = tt }
