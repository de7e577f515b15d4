use Rattle.std.proofs.Common.{◌≡◌, IfOk, IfErr, Result, sym, subst, ◌∙◌}
use Rattle.std.proofs.lemmas.Result.{IfOk-weaker, IfErr-weaker}
use Rattle.sheet.specs.Bytes.{bytes_of}
use Rattle.sheet.specs.Sheets.{tables_of}
use Rattle.desk.specs.Desk.{Packed, Blames}
use Rattle.desk.specs.declared.fault.DeskFault.{DeskFault}
use Rattle.desk.specs.declared.fault.DeskFault.TheVariants.{Memory}
use Rattle.sheet_read.specs.Lent.{room_of}
use Rattle.sheet_read.specs.Sheets.{reading_of}
use Rattle.sheet_read.specs.declared.fault.SheetFault.{SheetFault}
use Rattle.sheet_read.specs.declared.read.Extent.{Extent}
use Rattle.desk.proofs.pack.checked.Goals as goal

-- want of memory is nobody's fault
memory_blames : (answer : Result Extent SheetFault) (f : DeskFault) → f ≡ Memory → Blames answer f
memory_blames answer f m = subst (Blames answer) (sym m) tt

pub returns : goal.returns
returns c =
    let sheet = c.in_ok-sheet.sheet in
    let bs = bytes_of (tables_of sheet) in
    let answer = (reading_of (room_of c.args.tables) c.args.bytes.now).answer in
    let out = c.written.ensures in
    let same : IfOk c.written.result (λ w. w.items ≡ c.args.bytes.now) = IfOk-weaker c.written.result (λ w. w.items ≡ bs) (λ w. w.items ≡ c.args.bytes.now) (λ w e. e ∙ c.in_ok-sheet.ensures.read) out.whole in
    let packed : IfOk c.written.result (λ w. Packed w.items) =
    IfOk-weaker c.written.result (λ w. w.items ≡ bs) (λ w. Packed w.items) (λ w e. record { sheet = tables_of sheet; kept = sheet.kept; written = sym e }) out.whole in
    let blames : IfErr c.written.result (Blames answer) = IfErr-weaker c.written.result (λ f. f ≡ Memory) (Blames answer) (memory_blames answer) out.memory in
    record { same = same; packed = packed; blames = blames }
