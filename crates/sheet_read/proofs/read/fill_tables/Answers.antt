use Rattle.std.proofs.Common.{◌≡◌, ℕ, List, length, take, Ok, Result, sym, ap, ◌∙◌}
use Rattle.std.proofs.lemmas.Result.{err_from_is_err_and}
use Rattle.sheet.specs.declared.records.Activity.{Activity}
use Rattle.sheet.specs.Laid.{laid}
use Rattle.sheet.proofs.Laying.{laid_none}
use Rattle.sheet_read.specs.declared.fault.Section.TheVariants.{Events, Activities}
use Rattle.sheet_read.specs.declared.fault.SheetFault.{SheetFault}
use Rattle.sheet_read.specs.declared.read.Extent.{Extent}
use Rattle.sheet_read.specs.Records.{event_of, activity_of}
use Rattle.sheet_read.specs.Sections.{section_of}
use Rattle.sheet_read.specs.Sheets.{LotsReading, room_in, with_lots, lots_section_of}
use Rattle.sheet_read.proofs.Staging.{left_by, terms_read, section_read, at_activities, at_lots, events_read, activities_read}
use Rattle.sheet_read.proofs.read.fill_tables.Goals as goal

pub returns-in_err-activity_count : goal.returns-in_err-activity_count
returns-in_err-activity_count c =
    let p = err_from_is_err_and c.from_residual-in_err-activity_count.result c.from_residual-in_err-activity_count.ensures.1 in
    let room = room_in c.args.events.now c.args.activities.now c.args.lots.now c.args.steps.now in
    let bs = c.args.bytes.now in
    let period = c.in_ok-period.period in
    let rest = c.in_ok-period.unread.rest.now in
    let n = c.in_ok-event_count.event_count in
    let rest₂ = c.in_ok-event_count.unread.rest.now in
    let known = take c.from.result c.read_section.new.table in
    let l₁ = c.in_ok-period.ensures.1 ∙ c.all.ensures.total in
    let l₂ = c.in_ok-event_count.ensures.answer.1 ∙ l₁ in
    let t = terms_read bs c.all.result.total c.all.result.rest.now period rest c.all.ensures.total c.all.ensures.rest c.in_ok-period.ensures.0 in
    let e = section_read (event_of period) Events (length bs) c.in_ok-period.unread.total (length c.args.events.now) rest n rest₂ c.read_section.new.table c.args.events.now l₁ c.in_ok-event_count.ensures.answer.0 c.read_section.ensures.cells in
    let k : known ≡ events_read room bs period rest n rest₂ known = e.front c.from.result c.from.ensures in
    let acts : ℕ → List Activity × Result (ℕ × List ℕ) SheetFault = λ (q : ℕ). section_of (activity_of known) Activities q (length c.args.activities.now) rest₂ in
    let r = at_activities room bs period rest n rest₂ known t e.answers k _ (ap (λ (q : ℕ). (acts q).1) (sym l₂) ∙ sym c.in_err-activity_count.ensures.answer.0) in
    let d = left_by room bs c.from_residual-in_err-activity_count.result c.read_section.new.table c.args.events.now c.read_section-2.new.table c.args.activities.now c.args.lots.now c.args.lots.now c.args.steps.now c.args.steps.now _ r
    (rw (p.1, p.2)) e.filled (c.read_section-2.ensures.cells ∙ ap (λ (q : ℕ). laid 0 (acts q).0 c.args.activities.now) l₂) (sym (laid_none 0 _)) (sym (laid_none 0 _)) in
    record { answer = d.answers; events = d.events; activities = d.activities; lots = d.lots; steps = d.steps }

pub returns-in_err-lot_count : goal.returns-in_err-lot_count
returns-in_err-lot_count c =
    let p = err_from_is_err_and c.from_residual-in_err-lot_count.result c.from_residual-in_err-lot_count.ensures.1 in
    let room = room_in c.args.events.now c.args.activities.now c.args.lots.now c.args.steps.now in
    let bs = c.args.bytes.now in
    let period = c.in_ok-period.period in
    let rest = c.in_ok-period.unread.rest.now in
    let n = c.in_ok-event_count.event_count in
    let rest₂ = c.in_ok-event_count.unread.rest.now in
    let known = take c.from.result c.read_section.new.table in
    let l₁ = c.in_ok-period.ensures.1 ∙ c.all.ensures.total in
    let l₂ = c.in_ok-event_count.ensures.answer.1 ∙ l₁ in
    let t = terms_read bs c.all.result.total c.all.result.rest.now period rest c.all.ensures.total c.all.ensures.rest c.in_ok-period.ensures.0 in
    let e = section_read (event_of period) Events (length bs) c.in_ok-period.unread.total (length c.args.events.now) rest n rest₂ c.read_section.new.table c.args.events.now l₁ c.in_ok-event_count.ensures.answer.0 c.read_section.ensures.cells in
    let k : known ≡ events_read room bs period rest n rest₂ known = e.front c.from.result c.from.ensures in
    let m = c.in_ok-activity_count.activity_count in
    let rest₃ = c.in_ok-activity_count.unread.rest.now in
    let acts = take c.from-2.result c.read_section-2.new.table in
    let l₃ = c.in_ok-activity_count.ensures.answer.1 ∙ l₂ in
    let a = section_read (activity_of known) Activities (length bs) c.in_ok-event_count.unread.total (length c.args.activities.now) rest₂ m rest₃ c.read_section-2.new.table c.args.activities.now l₂ c.in_ok-activity_count.ensures.answer.0 c.read_section-2.ensures.cells in
    let j : acts ≡ activities_read room bs period rest n rest₂ known = a.front c.from-2.result c.from-2.ensures in
    let lots : ℕ → LotsReading = λ (q : ℕ). lots_section_of acts q (length c.args.lots.now) (length c.args.steps.now) rest₃ in
    let r = at_lots room bs period rest n rest₂ known t e.answers k m rest₃ acts a.answers j in
    let o = ap (λ (q : ℕ). (lots q).answer) (sym l₃) ∙ sym c.in_err-lot_count.ensures.answer in
    let d = left_by room bs c.from_residual-in_err-lot_count.result c.read_section.new.table c.args.events.now c.read_section-2.new.table c.args.activities.now c.read_lots_section.new.lots c.args.lots.now c.read_lots_section.new.steps c.args.steps.now _ r
    (rw (p.1, p.2) (ap (with_lots period n m) (sym o))) e.filled a.filled (c.read_lots_section.ensures.lots ∙ ap (λ (q : ℕ). laid 0 (lots q).lots c.args.lots.now) l₃) (c.read_lots_section.ensures.steps ∙ ap (λ (q : ℕ). laid 0 (lots q).steps c.args.steps.now) l₃) in
    record { answer = d.answers; events = d.events; activities = d.activities; lots = d.lots; steps = d.steps }

pub returns : goal.returns
returns c =
    let room = room_in c.args.events.now c.args.activities.now c.args.lots.now c.args.steps.now in
    let bs = c.args.bytes.now in
    let period = c.in_ok-period.period in
    let rest = c.in_ok-period.unread.rest.now in
    let n = c.in_ok-event_count.event_count in
    let rest₂ = c.in_ok-event_count.unread.rest.now in
    let known = take c.from.result c.read_section.new.table in
    let l₁ = c.in_ok-period.ensures.1 ∙ c.all.ensures.total in
    let l₂ = c.in_ok-event_count.ensures.answer.1 ∙ l₁ in
    let t = terms_read bs c.all.result.total c.all.result.rest.now period rest c.all.ensures.total c.all.ensures.rest c.in_ok-period.ensures.0 in
    let e = section_read (event_of period) Events (length bs) c.in_ok-period.unread.total (length c.args.events.now) rest n rest₂ c.read_section.new.table c.args.events.now l₁ c.in_ok-event_count.ensures.answer.0 c.read_section.ensures.cells in
    let k : known ≡ events_read room bs period rest n rest₂ known = e.front c.from.result c.from.ensures in
    let m = c.in_ok-activity_count.activity_count in
    let rest₃ = c.in_ok-activity_count.unread.rest.now in
    let acts = take c.from-2.result c.read_section-2.new.table in
    let l₃ = c.in_ok-activity_count.ensures.answer.1 ∙ l₂ in
    let a = section_read (activity_of known) Activities (length bs) c.in_ok-event_count.unread.total (length c.args.activities.now) rest₂ m rest₃ c.read_section-2.new.table c.args.activities.now l₂ c.in_ok-activity_count.ensures.answer.0 c.read_section-2.ensures.cells in
    let j : acts ≡ activities_read room bs period rest n rest₂ known = a.front c.from-2.result c.from-2.ensures in
    let lots : ℕ → LotsReading = λ (q : ℕ). lots_section_of acts q (length c.args.lots.now) (length c.args.steps.now) rest₃ in
    let r = at_lots room bs period rest n rest₂ known t e.answers k m rest₃ acts a.answers j in
    let o = ap (λ (q : ℕ). (lots q).answer) (sym l₃) ∙ sym c.in_ok-lot_count.ensures.answer in
    let x : Extent = record { period = period; events = c.from-3.result; activities = c.from-4.result; lots = c.from-5.result; steps = c.from-6.result } in
    let d = left_by room bs (Ok x) c.read_section.new.table c.args.events.now c.read_section-2.new.table c.args.activities.now c.read_lots_section.new.lots c.args.lots.now c.read_lots_section.new.steps c.args.steps.now _ r
    (rw (c.from-3.ensures, c.from-4.ensures, c.from-5.ensures, c.from-6.ensures) (ap (with_lots period n m) (sym o))) e.filled a.filled (c.read_lots_section.ensures.lots ∙ ap (λ (q : ℕ). laid 0 (lots q).lots c.args.lots.now) l₃) (c.read_lots_section.ensures.steps ∙ ap (λ (q : ℕ). laid 0 (lots q).steps c.args.steps.now) l₃) in
    record { answer = d.answers; events = d.events; activities = d.activities; lots = d.lots; steps = d.steps }
