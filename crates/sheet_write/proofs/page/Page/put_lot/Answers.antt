use Rattle.std.proofs.Common.{ℕ, List, [], ◌∷◌, length, subst, ap, arith, rules}
use Rattle.std.specs.List.{flat_map}
use Rattle.sheet.specs.Bytes.{number_bytes, class_number}
use Rattle.sheet.specs.Rules.{stretch}
use Rattle.sheet_write.specs.Pages.{Puts}
use Rattle.sheet_write.proofs.Putting.{puts_length, puts_then}
use Rattle.sheet_write.proofs.page.Page.put_lot.Goals as goal

-- the three numbers, and the steps
pub put_numbers-requires-2 : goal.put_numbers-requires-2
put_numbers-requires-2 c =
    let n = ap (λ (ns : List ℕ). length (flat_map number_bytes ns)) c.stretch.ensures in
    let p = c.put_numbers.ensures in
    omega (arith, n, c.requires.room, p.place, puts_length _ _ _ p)

pub returns : goal.returns
returns c =
    let l = c.args.lot in
    let head : List ℕ = class_number l.class ∷ l.parcels ∷ l.count ∷ [] in
    let first : Puts c.args.self.now (flat_map number_bytes head) c.put_numbers.new.self = search rules in
    let steps : Puts c.put_numbers.new.self (flat_map number_bytes (stretch l c.args.steps.now)) c.put_numbers-2.new.self =
    subst (λ (ns : List ℕ). Puts c.put_numbers.new.self (flat_map number_bytes ns) c.put_numbers-2.new.self) c.stretch.ensures c.put_numbers-2.ensures in
    puts_then c.args.self.now c.put_numbers.new.self c.put_numbers-2.new.self (flat_map number_bytes head) (flat_map number_bytes (stretch l c.args.steps.now)) first steps
