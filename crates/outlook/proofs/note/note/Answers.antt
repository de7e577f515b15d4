use Rattle.std.proofs.Common.{ℕ, ◌+◌, ◌<◌, length, get_or, drop, set, ap, ◌∙◌, arith}
use Rattle.outlook.specs.Reports.{no_report, noted_after}
use Rattle.outlook.proofs.Noting.{noted_more, noted_all}
use Rattle.outlook.proofs.note.note.Goals as goal

pub returns : goal.returns
returns c = λ e. noted_all c.args.reports.now c.loop-report.report-index e _ c.loop-report-test.false ∙ c.loop-report.invariant e

pub loop-report-preserved : goal.loop-report-preserved
loop-report-preserved c =
    let i = c.loop-report.report-index in
    let rs = c.args.reports.now in
    let known : (get_or rs i no_report).event < length c.loop-report.delays = omega (arith, c.requires i c.loop-report-test.true, c.loop-report.auto.delays) in
    λ e.
    ap (λ (k : ℕ). noted_after e (get_or (set c.loop-report.delays k (get_or rs i no_report).minutes) e 0) (drop (i + 1) rs)) c.from.ensures
    ∙ noted_more rs c.loop-report.delays i e c.loop-report-test.true known
    ∙ c.loop-report.invariant e
