use Rattle.std.proofs.Common.{get_or}
use Rattle.std.proofs.lemmas.List.{get_or_default}
use Rattle.sheet.specs.Bytes.{number_bytes}
use Rattle.sheet_write.proofs.Putting.{put_room, put_more, put_all, put_none}
use Rattle.sheet_write.proofs.page.Page.put_numbers.Goals as goal

pub loop-number-init : goal.loop-number-init
loop-number-init c = put_none number_bytes c.args.numbers.now c.args.self.now c.requires

pub put_number-requires : goal.put_number-requires
put_number-requires c =
    let i = c.loop-number.number-index in
    put_room number_bytes c.args.numbers.now c.args.self.now c.requires i c.loop-number.self (get_or c.args.numbers.now i 0) c.loop-number.invariant c.loop-number-test.true (get_or_default c.args.numbers.now i 0 (get_or c.args.numbers.now i 0) c.loop-number-test.true)

pub loop-number-preserved : goal.loop-number-preserved
loop-number-preserved c =
    let i = c.loop-number.number-index in
    put_more number_bytes c.args.numbers.now c.args.self.now c.requires i c.loop-number.self c.put_number.new.self (get_or c.args.numbers.now i 0) c.loop-number.invariant c.loop-number-test.true (get_or_default c.args.numbers.now i 0 (get_or c.args.numbers.now i 0) c.loop-number-test.true) c.put_number.ensures

pub returns : goal.returns
returns c = put_all number_bytes c.args.numbers.now c.args.self.now c.requires c.loop-number.number-index c.loop-number.self c.loop-number.invariant c.loop-number-test.false
