use Rattle.std.proofs.Common.{◌-◌, length, ◌∙◌, arith}
use Rattle.std.proofs.lemmas.Result.{IfOk-weaker}
use Rattle.sheet.specs.Sheets.{tables_of}
use Rattle.outlook.specs.Outlook.{ahead}
use Rattle.outlook.proofs.Unmarked.{few}
use Rattle.desk.specs.Meanings.{meaning}
use Rattle.desk.proofs.Lines.{told_so}
use Rattle.desk.proofs.worst.outlook_on.Goals as goal

pub returns-clause-told : goal.returns-clause-told
returns-clause-told c =
    let s = c.args.sheet.now in
    let known = c.in_ok-verdict.ensures in
    IfOk-weaker c.lines_of.result _ _
    (λ text told. told
    ∙ told_so (ahead (meaning c.args.rule) (tables_of s) c.args.reports.now) c.look_ahead.new.late _ c.look_ahead.new.lives _ c.in_ok-verdict.verdict
    (length s.events.now - 0) (length s.activities.now - 0) (omega arith) (omega arith)
    (omega (arith, (few (tables_of s) s.kept).0, c.look_ahead.auto.late)) (omega (arith, (few (tables_of s) s.kept).1, c.look_ahead.auto.lives)) known.late known.live known.verdict)
    c.lines_of.ensures.told
