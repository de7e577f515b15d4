-- A section: its count, then one record after another.
--
--   spot_at       where the bytes that are left begin in a sheet of `total` bytes
--   records_of    the records of a section, one after another
--   fewest, most  how many records a section may have
--   count_of      a section's count, with the bytes after it, or its fault
--   section_of    the records that a section gives, and its count with the bytes after it, or the fault
use Rattle.std.specs.Prelude.{ℕ, ◌-◌, cond, List, [], length, Ok, Err, Result, nat_lt}
use Rattle.sheet_read.specs.declared.fault.Section.{Section}
use Rattle.sheet_read.specs.declared.fault.Section.TheVariants.{Terms, Events, Activities, Lots}
use Rattle.sheet_read.specs.declared.fault.Spot.{Spot}
use Rattle.sheet_read.specs.declared.fault.ReaderFault.{ReaderFault}
use Rattle.sheet_read.specs.declared.fault.RecordFault.{RecordFault}
use Rattle.sheet_read.specs.declared.fault.SheetFault.{SheetFault}
use Rattle.sheet_read.specs.declared.fault.SheetFault.TheVariants.{Count, Record, Bounds, Table}
use Rattle.sheet_read.specs.Numbers.{then, run, next_number, number_of}

abbrev pub spot_at : Section → ℕ → ℕ → List ℕ → Spot
spot_at section item total rest = record { section = section; «record» = item; place = total - length rest }

-- the records of a section are numbered, and each is told where it begins
abbrev pub placed : {A : Type 0} → (Spot → List ℕ → Result (A × List ℕ) RecordFault) → Section → ℕ → ℕ → List ℕ → Result (A × List ℕ) RecordFault
placed read section total i bs = read (spot_at section i total bs) bs

abbrev pub records_of : {A : Type 0} → (Spot → List ℕ → Result (A × List ℕ) RecordFault) → Section → ℕ → ℕ → ℕ → List ℕ → List A × Result (List ℕ) RecordFault
records_of read section total = run (placed read section total) next_number

abbrev pub fewest : Section → ℕ
fewest Terms = 1
fewest Events = 1
fewest Activities = 0
fewest Lots = 0

abbrev pub most : Section → ℕ
most Terms = 1
most Events = 512
most Activities = 1024
most Lots = 512

-- a fault of the byte reader at a count, and a record's fault, carried whole in the sheet's
abbrev pub at_count : {A : Type 0} → Result A ReaderFault → Result A SheetFault
at_count (Ok x) = Ok x
at_count (Err e) = Err (Count e)

abbrev pub in_sheet : {A : Type 0} → Result A RecordFault → Result A SheetFault
in_sheet (Ok x) = Ok x
in_sheet (Err e) = Err (Record e)

-- a count is tested against its bounds, then against the caller's table, which has `cells` cells
abbrev pub counted : Section → ℕ → Spot → ℕ × List ℕ → Result (ℕ × List ℕ) SheetFault
counted section cells at p =
    cond (nat_lt p.0 (fewest section)) (Err (Bounds at))
    (cond (nat_lt (most section) p.0) (Err (Bounds at))
    (cond (nat_lt cells p.0) (Err (Table at)) (Ok p)))

abbrev pub count_of : Section → ℕ → ℕ → List ℕ → Result (ℕ × List ℕ) SheetFault
count_of section total cells bs = then (at_count (number_of (spot_at section 0 total bs) bs)) (counted section cells (spot_at section 0 total bs))

-- a section after its count
abbrev pub section_from : {A : Type 0} → (Spot → List ℕ → Result (A × List ℕ) RecordFault) → Section → ℕ → Result (ℕ × List ℕ) SheetFault → List A × Result (ℕ × List ℕ) SheetFault
section_from read section total (Err e) = ([], Err e)
section_from read section total (Ok p) = (
  (records_of read section total 0 p.0 p.1).0,
  then (in_sheet (records_of read section total 0 p.0 p.1).1) (λ rest. Ok (p.0, rest)),
)

abbrev pub section_of : {A : Type 0} → (Spot → List ℕ → Result (A × List ℕ) RecordFault) → Section → ℕ → ℕ → List ℕ → List A × Result (ℕ × List ℕ) SheetFault
section_of read section total cells bs = section_from read section total (count_of section total cells bs)
