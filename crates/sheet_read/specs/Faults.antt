-- What each fault is told as.
--
--   section_number   terms 1, events 2, activities 3, lots 4
--   rule_number      the refusal of a record that breaks its rule: period 3, event 4, activity 5, lot 6
--   refusal_text     the line that tells it
--   refusal_of       every fault's number, section, record and byte
use Rattle.std.specs.Prelude.{ℕ, List, ◌++◌, codes, decimal}
use Rattle.sheet_read.specs.declared.fault.Section.{Section}
use Rattle.sheet_read.specs.declared.fault.Section.TheVariants.{Terms, Events, Activities, Lots}
use Rattle.sheet_read.specs.declared.fault.Spot.{Spot}
use Rattle.sheet_read.specs.declared.fault.ReaderFault.TheVariants.{Short}
use Rattle.sheet_read.specs.declared.fault.RecordFault.TheVariants.{Reader, Rule}
use Rattle.sheet_read.specs.declared.fault.SheetFault.{SheetFault}
use Rattle.sheet_read.specs.declared.fault.SheetFault.TheVariants.{Count, Record, Bounds, Table, Leftover}
use Rattle.sheet_read.specs.declared.fault.Refusal.{Refusal}

abbrev pub section_number : Section → ℕ
section_number Terms = 1
section_number Events = 2
section_number Activities = 3
section_number Lots = 4

abbrev pub rule_number : Section → ℕ
rule_number Terms = 3
rule_number Events = 4
rule_number Activities = 5
rule_number Lots = 6

-- a refusal by its number and the spot of what is at fault
abbrev pub refused : ℕ → Spot → Refusal
refused number at = record { number = number; section = at.section; «record» = at.«record»; place = at.place }

-- 1 bytes end early; 2 a count or the step total out of bounds; 3 to 6 a rule broken; 7 bytes left over; 8 a table too short
abbrev pub refusal_of : SheetFault → Refusal
refusal_of (Count (Short at)) = refused 1 at
refusal_of (Record (Reader (Short at))) = refused 1 at
refusal_of (Record (Rule at)) = refused (rule_number at.section) at
refusal_of (Bounds at) = refused 2 at
refusal_of (Leftover at) = refused 7 at
refusal_of (Table at) = refused 8 at

-- the line that tells a refusal
abbrev pub refusal_text : Refusal → List ℕ
refusal_text r =
    codes "refused " ++ (decimal r.number ++ (codes " section " ++ (decimal (section_number r.section) ++ (codes " record " ++ (decimal r.«record» ++ (codes " byte " ++ decimal r.place))))))
