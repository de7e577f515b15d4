-- As many records are read as were counted, so the front of the table is just what was read.
use Rattle.std.proofs.Common.{◌≡◌, ℕ, List, length, take, Ok, Err, Result, sym, ap, ◌∙◌}
use Rattle.std.proofs.lemmas.List.{take_at}
use Rattle.sheet.specs.Laid.{laid}
use Rattle.sheet_read.specs.declared.fault.Section.{Section}
use Rattle.sheet_read.specs.declared.fault.Spot.{Spot}
use Rattle.sheet_read.specs.declared.fault.RecordFault.{RecordFault}
use Rattle.sheet_read.specs.declared.fault.SheetFault.{SheetFault}
use Rattle.sheet_read.specs.Numbers.{next_number}
use Rattle.sheet_read.specs.Sections.{placed, records_of, in_sheet, count_of, section_from, section_of}
use Rattle.sheet_read.proofs.Running.{run_length}
use Rattle.sheet_read.proofs.Faithful.{then_ok}

pub in_sheet_ok : {A : Type 0} (r : Result A RecordFault) (x : A) → in_sheet r ≡ Ok x → r ≡ Ok x
in_sheet_ok (Ok y) x h = cc
in_sheet_ok (Err e) x h = cc

-- a section that was read to its end, by its count and its records
pub record Whole {A : Type 0} (read : Spot → List ℕ → Result (A × List ℕ) RecordFault) (section : Section) (total : ℕ) (r : Result (ℕ × List ℕ) SheetFault) (n : ℕ) (rest : List ℕ) : Type 0 where
  pub start : List ℕ
  pub counted : r ≡ Ok (n, start)
  pub ran : records_of read section total 0 n start ≡ ((section_from read section total r).0, Ok rest)
  pub long : length (section_from read section total r).0 ≡ n

module _ {A : Type 0} (read : Spot → List ℕ → Result (A × List ℕ) RecordFault) (section : Section) (total : ℕ) where
  pub section_whole : (r : Result (ℕ × List ℕ) SheetFault) (n : ℕ) (rest : List ℕ) → (section_from read section total r).1 ≡ Ok (n, rest) → Whole read section total r n rest
  section_whole (Err f) n rest e = cc
  section_whole (Ok p) n rest e =
      let t = then_ok (in_sheet (records_of read section total 0 p.0 p.1).1) (λ (left : List ℕ). Ok (p.0, left)) (n, rest) e in
      let q : (p.0, t.0) ≡ (n, rest) = cc in
      let m : p.0 ≡ n = ap (λ (x : ℕ × List ℕ). x.0) q in
      let o : (records_of read section total 0 p.0 p.1).1 ≡ Ok rest = in_sheet_ok (records_of read section total 0 p.0 p.1).1 t.0 t.1 ∙ ap {B = Result (List ℕ) RecordFault} (λ (x : ℕ × List ℕ). Ok x.1) q in
      let whole : records_of read section total 0 p.0 p.1 ≡ ((records_of read section total 0 p.0 p.1).0, Ok rest) =
      ap (λ (x : Result (List ℕ) RecordFault). ((records_of read section total 0 p.0 p.1).0, x)) o in
      record {
        start = p.1;
        counted = ap {B = Result (ℕ × List ℕ) SheetFault} (λ (k : ℕ). Ok (k, p.1)) m;
        ran = ap (λ (k : ℕ). records_of read section total 0 k p.1) (sym m) ∙ whole;
        long = run_length (placed read section total) next_number 0 p.0 p.1 _ rest whole ∙ m;
      }

  -- what the table holds at its front
  pub section_front : (cells : ℕ) (bs : List ℕ) (n : ℕ) (rest : List ℕ) (old : List A) → (section_of read section total cells bs).1 ≡ Ok (n, rest)
      → take n (laid 0 (section_of read section total cells bs).0 old) ≡ (section_of read section total cells bs).0
  section_front cells bs n rest old e = take_at (section_of read section total cells bs).0 _ n (section_whole (count_of section total cells bs) n rest e).long
