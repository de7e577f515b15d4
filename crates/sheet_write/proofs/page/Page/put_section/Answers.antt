use Rattle.std.proofs.Common.{ℕ, ◌+◌, ◌≤◌, List, length, subst, sym}
use Rattle.std.specs.List.{flat_map}
use Rattle.sheet.specs.Bytes.{number_bytes}
use Rattle.sheet_write.specs.Pages.{Puts}
use Rattle.sheet_write.proofs.Putting.{put_none, put_room, put_more, put_all, puts_left, puts_then}
use Rattle.sheet_write.proofs.page.Page.put_section.Goals as goal

pub loop-record-init : goal.loop-record-init
loop-record-init g c =
    let f : g.row.R.Denot → List ℕ = λ r. flat_map number_bytes (g.R.Numbered.numbers r) in
    let p = c.args.self.now in
    let xs = c.args.records.now in
    put_none f xs c.put_number.new.self (puts_left p c.put_number.new.self (number_bytes (length xs)) (flat_map f xs) c.requires.room c.put_number.ensures)

pub put_numbers-requires : goal.put_numbers-requires
put_numbers-requires g c =
    let f : g.row.R.Denot → List ℕ = λ r. flat_map number_bytes (g.R.Numbered.numbers r) in
    let p = c.args.self.now in
    let xs = c.args.records.now in
    let x = c.record-item.result in
    let q = c.loop-record.self in
    let left = puts_left p c.put_number.new.self (number_bytes (length xs)) (flat_map f xs) c.requires.room c.put_number.ensures in
    subst (λ (ns : List ℕ). q.at + length (flat_map number_bytes ns) ≤ length q.cells.now) (sym c.numbers.ensures)
    (put_room f xs c.put_number.new.self left c.loop-record.record-index q x c.loop-record.invariant c.loop-record-test.true c.record-item.is)

pub loop-record-preserved : goal.loop-record-preserved
loop-record-preserved g c =
    let f : g.row.R.Denot → List ℕ = λ r. flat_map number_bytes (g.R.Numbered.numbers r) in
    let p = c.args.self.now in
    let xs = c.args.records.now in
    let x = c.record-item.result in
    let q = c.loop-record.self in
    let left = puts_left p c.put_number.new.self (number_bytes (length xs)) (flat_map f xs) c.requires.room c.put_number.ensures in
    put_more f xs c.put_number.new.self left c.loop-record.record-index q c.put_numbers.new.self x c.loop-record.invariant c.loop-record-test.true c.record-item.is
    (subst (λ (ns : List ℕ). Puts q (flat_map number_bytes ns) c.put_numbers.new.self) c.numbers.ensures c.put_numbers.ensures)

pub returns : goal.returns
returns g c =
    let f : g.row.R.Denot → List ℕ = λ r. flat_map number_bytes (g.R.Numbered.numbers r) in
    let p = c.args.self.now in
    let xs = c.args.records.now in
    let left = puts_left p c.put_number.new.self (number_bytes (length xs)) (flat_map f xs) c.requires.room c.put_number.ensures in
    puts_then p c.put_number.new.self c.loop-record.self (number_bytes (length xs)) (flat_map f xs) c.put_number.ensures
    (put_all f xs c.put_number.new.self left c.loop-record.record-index c.loop-record.self c.loop-record.invariant c.loop-record-test.false)
