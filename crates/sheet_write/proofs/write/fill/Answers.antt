use Rattle.std.proofs.Common.{sym, ◌∙◌, arith, rules}
use Rattle.sheet.specs.Sheets.{tables_of}
use Rattle.sheet.proofs.Stretches.{all_within}
use Rattle.sheet_write.proofs.Sections.{Roomy, room_events, room_activities, room_lots, filled, filled_front}
use Rattle.sheet_write.proofs.Back.{sizes}
use Rattle.sheet_write.proofs.write.fill.Goals as goal
use Rattle.sheet_write.proofs.write.fill.Goals.{After-new-page}

pub put_section-requires : goal.put_section-requires
put_section-requires c =
    let t = tables_of c.args.sheet.now in
    let f = sizes t c.args.sheet.now.kept in
    let roomy : Roomy t c.new-page.result c.args.out.now = record { front = c.new-page.ensures.front; kept = c.new-page.ensures.kept; room = c.requires } in
    record { few = omega (arith, f); room = room_events t c.new-page.result c.put_numbers.new.self c.args.out.now roomy c.put_numbers.ensures }

pub put_section-requires-2 : goal.put_section-requires-2
put_section-requires-2 c =
    let t = tables_of c.args.sheet.now in
    let f = sizes t c.args.sheet.now.kept in
    let roomy : Roomy t c.new-page.result c.args.out.now = record { front = c.new-page.ensures.front; kept = c.new-page.ensures.kept; room = c.requires } in
    record { few = omega (arith, f); room = room_activities t c.new-page.result c.put_numbers.new.self c.args.out.now roomy c.put_numbers.ensures c.put_section.new.self c.put_section.ensures }

pub put_lots-requires-clause-within : goal.put_lots-requires-clause-within
put_lots-requires-clause-within c = let s = c.args.sheet.now in all_within (tables_of s) s.kept

pub put_lots-requires-clause-room : goal.put_lots-requires-clause-room
put_lots-requires-clause-room c =
    let t = tables_of c.args.sheet.now in
    let roomy : Roomy t c.new-page.result c.args.out.now = record { front = c.new-page.ensures.front; kept = c.new-page.ensures.kept; room = c.requires } in
    room_lots t c.new-page.result c.put_numbers.new.self c.args.out.now roomy c.put_numbers.ensures c.put_section.new.self c.put_section.ensures c.put_section-2.new.self c.put_section-2.ensures

pub returns : goal.returns
returns c =
    let t = tables_of c.args.sheet.now in
    let roomy : Roomy t c.new-page.result c.args.out.now = record { front = c.new-page.ensures.front; kept = c.new-page.ensures.kept; room = c.requires } in
    let whole = filled t c.new-page.result c.put_numbers.new.self c.args.out.now roomy c.put_numbers.ensures c.put_section.new.self c.put_section.ensures c.put_section-2.new.self c.put_section-2.ensures c.put_lots.new.self c.put_lots.ensures in
    let front = filled_front t c.new-page.result c.put_numbers.new.self c.args.out.now roomy c.put_numbers.ensures c.put_section.new.self c.put_section.ensures c.put_section-2.new.self c.put_section-2.ensures c.put_lots.new.self c.put_lots.ensures in
    let same = sym (whole.same ∙ c.new-page.ensures.same) in
    search rules
