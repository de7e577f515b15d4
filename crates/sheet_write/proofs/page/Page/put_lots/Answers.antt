use Rattle.std.proofs.Common.{length}
use Rattle.std.specs.List.{flat_map}
use Rattle.std.proofs.lemmas.List.{get_or_default}
use Rattle.sheet.specs.Bytes.{number_bytes, lot_bytes}
use Rattle.sheet.specs.Rules.{no_lot, lot_at}
use Rattle.sheet_write.proofs.Putting.{put_none, put_room, put_more, put_all, puts_left, puts_then}
use Rattle.sheet_write.proofs.page.Page.put_lots.Goals as goal

pub loop-lot-init : goal.loop-lot-init
loop-lot-init c = put_none (lot_bytes c.args.steps.now) c.args.lots.now c.put_number.new.self (puts_left c.args.self.now c.put_number.new.self (number_bytes (length c.args.lots.now)) (flat_map (lot_bytes c.args.steps.now) c.args.lots.now) c.requires.room c.put_number.ensures)

pub put_lot-requires-clause-room : goal.put_lot-requires-clause-room
put_lot-requires-clause-room c =
    let i = c.loop-lot.lot-index in
    let x = lot_at c.args.lots.now i in
    put_room (lot_bytes c.args.steps.now) c.args.lots.now c.put_number.new.self (puts_left c.args.self.now c.put_number.new.self (number_bytes (length c.args.lots.now)) (flat_map (lot_bytes c.args.steps.now) c.args.lots.now) c.requires.room c.put_number.ensures) i c.loop-lot.self x c.loop-lot.invariant c.loop-lot-test.true (get_or_default c.args.lots.now i no_lot x c.loop-lot-test.true)

pub loop-lot-preserved : goal.loop-lot-preserved
loop-lot-preserved c =
    let i = c.loop-lot.lot-index in
    let x = lot_at c.args.lots.now i in
    put_more (lot_bytes c.args.steps.now) c.args.lots.now c.put_number.new.self (puts_left c.args.self.now c.put_number.new.self (number_bytes (length c.args.lots.now)) (flat_map (lot_bytes c.args.steps.now) c.args.lots.now) c.requires.room c.put_number.ensures) i c.loop-lot.self c.put_lot.new.self x c.loop-lot.invariant c.loop-lot-test.true (get_or_default c.args.lots.now i no_lot x c.loop-lot-test.true) c.put_lot.ensures

pub returns : goal.returns
returns c =
    puts_then c.args.self.now c.put_number.new.self c.loop-lot.self (number_bytes (length c.args.lots.now)) (flat_map (lot_bytes c.args.steps.now) c.args.lots.now) c.put_number.ensures
    (put_all (lot_bytes c.args.steps.now) c.args.lots.now c.put_number.new.self (puts_left c.args.self.now c.put_number.new.self (number_bytes (length c.args.lots.now)) (flat_map (lot_bytes c.args.steps.now) c.args.lots.now) c.requires.room c.put_number.ensures) c.loop-lot.lot-index c.loop-lot.self c.loop-lot.invariant c.loop-lot-test.false)
