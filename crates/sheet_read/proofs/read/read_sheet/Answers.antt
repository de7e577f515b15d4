use Rattle.std.proofs.Common.{◌<◌, sym, ◌∙◌}
use Rattle.std.proofs.ByRecursion.{All-from_get_or}
use Rattle.sheet_read.specs.Lent.{room_of}
use Rattle.sheet_read.specs.Sheets.{AcceptedSheet}
use Rattle.sheet_read.proofs.Faithful.{Bytes}
use Rattle.sheet_read.proofs.Whole.{accepted_sheet, made_if}
use Rattle.sheet_read.proofs.read.read_sheet.Goals as goal

pub returns-clause-accepted : goal.returns-clause-accepted
returns-clause-accepted c =
    let f = c.fill_tables.ensures in
    let old = c.args.tables.now in
    let es = c.fill_tables.new.events in
    let acts = c.fill_tables.new.activities in
    let ls = c.fill_tables.new.lots in
    let ss = c.fill_tables.new.steps in
    let bs : Bytes c.args.bytes.now = All-from_get_or (λ b. b < 256) c.args.bytes.now 0 (λ i h. (c.type_inv.bytes i).fits) in
    made_if (λ x. AcceptedSheet c.args.bytes.now x es acts ls ss) c.fill_tables.result (λ x e.
    accepted_sheet (room_of old) c.args.bytes.now x es old.events.now acts old.activities.now ls old.lots.now ss old.steps.now
    bs (record { events = f.events; activities = f.activities; lots = f.lots; steps = f.steps }) (sym f.answer ∙ e))
