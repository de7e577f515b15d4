use Rattle.std.proofs.Common.{Some, None, ◌∙◌, ap, ap₂, lit<}
use Rattle.std.proofs.lemmas.Str.Pattern.{split_parts}
use Rattle.words.specs.Numbers.{number_of}
use Rattle.desk.specs.Reported.{report_by}
use Rattle.desk.proofs.Equals.{report_parted, report_none}
use Rattle.desk.proofs.reports.report.Goals as goal

pub returns-in_err-event : goal.returns-in_err-event
returns-in_err-event c = c.from_residual.ensures ∙ report_none c.args.word.now (split_parts 61 c.args.word.now None c.in_err-event.ensures.cases (lit< tt))

pub returns-in_err-number : goal.returns-in_err-number
returns-in_err-number c =
    let event = c.in_ok-event.event in
    let minutes = c.in_ok-event.minutes in
    let parts = split_parts 61 c.args.word.now (Some (event, minutes)) c.in_ok-event.ensures.cases (lit< tt) in
    c.from_residual-in_err-number.ensures
    ∙ ap (λ a. report_by a (number_of minutes.now)) c.in_err-number.ensures
    ∙ report_parted c.args.word.now event.now minutes.now parts.0 parts.1

pub returns-in_err-number-2 : goal.returns-in_err-number-2
returns-in_err-number-2 c =
    let event = c.in_ok-event.event in
    let minutes = c.in_ok-event.minutes in
    let parts = split_parts 61 c.args.word.now (Some (event, minutes)) c.in_ok-event.ensures.cases (lit< tt) in
    c.from_residual-in_err-number-2.ensures
    ∙ ap₂ report_by c.in_ok-number.ensures c.in_err-number-2.ensures
    ∙ report_parted c.args.word.now event.now minutes.now parts.0 parts.1

pub returns : goal.returns
returns c =
    let event = c.in_ok-event.event in
    let minutes = c.in_ok-event.minutes in
    let parts = split_parts 61 c.args.word.now (Some (event, minutes)) c.in_ok-event.ensures.cases (lit< tt) in
    ap₂ report_by c.in_ok-number.ensures c.in_ok-number-2.ensures ∙ report_parted c.args.word.now event.now minutes.now parts.0 parts.1
