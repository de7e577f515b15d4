-- A whole sheet: what reading answers, and what it leaves in each table.
--
--   Room           how many cells each of the caller's tables has
--   Reading        the records and steps that are read before the end or the first fault, and the answer
--   reading_of     the reading of some bytes: terms, events, activities, lots, and nothing left over
--   AcceptedSheet  what holds where reading answers Ok
--   read_tables    the tables that an accepted sheet is read into: as much of the caller's as was found
use Rattle.std.specs.Prelude.{◌≡◌, ℕ, ◌≤◌, true, List, [], ◌∷◌, length, take, Ok, Err, Result}
use Rattle.sheet.specs.declared.records.Event.{Event}
use Rattle.sheet.specs.declared.records.Activity.{Activity}
use Rattle.sheet.specs.declared.records.Lot.{Lot}
use Rattle.sheet.specs.Rules.{Tables, tables, well_formed as keeps_rules}
use Rattle.sheet.specs.Bytes.{bytes_of}
use Rattle.sheet_read.specs.declared.fault.Section.TheVariants.{Terms, Events, Activities, Lots}
use Rattle.sheet_read.specs.declared.fault.SheetFault.{SheetFault}
use Rattle.sheet_read.specs.declared.fault.SheetFault.TheVariants.{Leftover}
use Rattle.sheet_read.specs.declared.read.Extent.{Extent}
use Rattle.sheet_read.specs.Numbers.{then}
use Rattle.sheet_read.specs.Records.{period_of, event_of, activity_of}
use Rattle.sheet_read.specs.Sections.{spot_at, in_sheet, count_of, section_of}
use Rattle.sheet_read.specs.Lots.{lots_of, lots_read, steps_read, lots_answer}

pub record Room : Type 0 where
  pub events : ℕ
  pub activities : ℕ
  pub lots : ℕ
  pub steps : ℕ

pub record Reading : Type 0 where
  pub events : List Event
  pub activities : List Activity
  pub lots : List Lot
  pub steps : List ℕ
  pub answer : Result Extent SheetFault

-- the room in tables as the caller has them
abbrev pub room_in : List Event → List Activity → List Lot → List ℕ → Room
room_in es acts ls ss = record { events = length es; activities = length acts; lots = length ls; steps = length ss }

-- a fault before the lots: the events and activities that were read, and no lot or step
abbrev pub broken : List Event → List Activity → SheetFault → Reading
broken es acts f = record { events = es; activities = acts; lots = []; steps = []; answer = Err f }

-- nothing may be left over after the last lot
abbrev pub closed : ℕ → ℕ → ℕ × List ℕ → Result ℕ SheetFault
closed total lots (steps, []) = Ok steps
closed total lots (steps, b ∷ rest) = Err (Leftover (spot_at Lots lots total (b ∷ rest)))

-- the section of the lots, to the end of the sheet: lots and steps, and how many there are of each
pub record LotsReading : Type 0 where
  pub lots : List Lot
  pub steps : List ℕ
  pub answer : Result (ℕ × ℕ) SheetFault

abbrev pub lots_section_from : List Activity → ℕ → ℕ → Result (ℕ × List ℕ) SheetFault → LotsReading
lots_section_from acts total cells (Err f) = record { lots = []; steps = []; answer = Err f }
lots_section_from acts total cells (Ok p) = record {
  lots = lots_read (lots_of acts total cells p.0 p.1);
  steps = steps_read (lots_of acts total cells p.0 p.1);
  answer = then (lots_answer (lots_of acts total cells p.0 p.1)) (λ q. then (closed total p.0 q) (λ ss. Ok (p.0, ss)));
}

abbrev pub lots_section_of : List Activity → ℕ → ℕ → ℕ → List ℕ → LotsReading
lots_section_of acts total lot_cells step_cells bs = lots_section_from acts total step_cells (count_of Lots total lot_cells bs)

abbrev pub extent : ℕ → ℕ → ℕ → ℕ × ℕ → Extent
extent period es acts q = record { period = period; events = es; activities = acts; lots = q.0; steps = q.1 }

abbrev pub with_lots : ℕ → ℕ → ℕ → Result (ℕ × ℕ) SheetFault → Result Extent SheetFault
with_lots period es acts found = then found (λ q. Ok (extent period es acts q))

abbrev pub lots_then : ℕ → List Event → ℕ → List Activity → ℕ → LotsReading → Reading
lots_then period es e acts a r = record { events = es; activities = acts; lots = r.lots; steps = r.steps; answer = with_lots period e a r.answer }

abbrev pub activities_then : ℕ → ℕ → List Event → ℕ → Room → List Activity × Result (ℕ × List ℕ) SheetFault → Reading
activities_then total period es e room (acts, Err f) = broken es acts f
activities_then total period es e room (acts, Ok p) = lots_then period es e acts p.0 (lots_section_of acts total room.lots room.steps p.1)

abbrev pub events_then : ℕ → ℕ → Room → List Event × Result (ℕ × List ℕ) SheetFault → Reading
events_then total period room (es, Err f) = broken es [] f
events_then total period room (es, Ok p) = activities_then total period es p.0 room (section_of (activity_of es) Activities total room.activities p.1)

abbrev pub terms_then : ℕ → Room → Result (ℕ × List ℕ) SheetFault → Reading
terms_then total room (Err f) = broken [] [] f
terms_then total room (Ok p) = events_then total p.0 room (section_of (event_of p.0) Events total room.events p.1)

-- the terms: one record, the period
abbrev pub terms_of : ℕ → List ℕ → Result (ℕ × List ℕ) SheetFault
terms_of total bs = then (count_of Terms total 1 bs) (λ p. in_sheet (period_of (spot_at Terms 0 total p.1) p.1))

abbrev pub reading_of : Room → List ℕ → Reading
reading_of room bs = terms_then (length bs) room (terms_of (length bs) bs)

abbrev pub read_tables : Extent → List Event → List Activity → List Lot → List ℕ → Tables
read_tables x es acts ls ss = tables x.period (take x.events es) (take x.activities acts) (take x.lots ls) (take x.steps ss)

-- as much was found as the tables hold
abbrev pub FitsIn : Extent → ℕ → ℕ → ℕ → ℕ → Type 0
FitsIn x es acts ls ss = ((x.events ≤ es) × (x.activities ≤ acts)) × ((x.lots ≤ ls) × (x.steps ≤ ss))

-- an accepted sheet: the tables that were read keep every rule, and are written back byte by byte
pub record AcceptedSheet (bs : List ℕ) (x : Extent) (es : List Event) (acts : List Activity) (ls : List Lot) (ss : List ℕ) : Type 0 where
  pub fits : FitsIn x (length es) (length acts) (length ls) (length ss)
  pub kept : keeps_rules (read_tables x es acts ls ss) ≡ true
  pub written_back : bytes_of (read_tables x es acts ls ss) ≡ bs
