-- The reading of a sheet, section by section: what it comes to once the sections so far are known.
use Rattle.std.proofs.Common.{◌≡◌, ℕ, List, length, take, Ok, Result, sym, ap, ◌∙◌}
use Rattle.sheet.specs.declared.records.Event.{Event}
use Rattle.sheet.specs.declared.records.Activity.{Activity}
use Rattle.sheet.specs.declared.records.Lot.{Lot}
use Rattle.sheet.specs.Laid.{laid}
use Rattle.sheet_read.specs.declared.fault.Section.{Section}
use Rattle.sheet_read.specs.declared.fault.Section.TheVariants.{Events, Activities}
use Rattle.sheet_read.specs.declared.fault.Spot.{Spot}
use Rattle.sheet_read.specs.declared.fault.RecordFault.{RecordFault}
use Rattle.sheet_read.specs.declared.fault.SheetFault.{SheetFault}
use Rattle.sheet_read.specs.declared.read.Extent.{Extent}
use Rattle.sheet_read.specs.Records.{event_of, activity_of}
use Rattle.sheet_read.specs.Sections.{section_of}
use Rattle.sheet_read.specs.Sheets.{Room, Reading, terms_of, terms_then, events_then, activities_then, lots_then, lots_section_of, reading_of}
use Rattle.sheet_read.proofs.Counted.{section_front}

-- what is owed where the reading ends: the answer, and each table
pub record Left (room : Room) (bs : List ℕ) (answer : Result Extent SheetFault) (es es₀ : List Event) (acts acts₀ : List Activity) (ls ls₀ : List Lot) (ss ss₀ : List ℕ) : Type 0 where
  pub answers : answer ≡ (reading_of room bs).answer
  pub events : es ≡ laid 0 (reading_of room bs).events es₀
  pub activities : acts ≡ laid 0 (reading_of room bs).activities acts₀
  pub lots : ls ≡ laid 0 (reading_of room bs).lots ls₀
  pub steps : ss ≡ laid 0 (reading_of room bs).steps ss₀

pub left_by : (room : Room) (bs : List ℕ) (answer : Result Extent SheetFault) (es es₀ : List Event) (acts acts₀ : List Activity) (ls ls₀ : List Lot) (ss ss₀ : List ℕ) (r : Reading) → reading_of room bs ≡ r
    → answer ≡ r.answer → es ≡ laid 0 r.events es₀ → acts ≡ laid 0 r.activities acts₀ → ls ≡ laid 0 r.lots ls₀ → ss ≡ laid 0 r.steps ss₀
    → Left room bs answer es es₀ acts acts₀ ls ls₀ ss ss₀
left_by room bs answer es es₀ acts acts₀ ls ls₀ ss ss₀ r e a p q s t = record {
  answers = a ∙ ap (λ (x : Reading). x.answer) (sym e);
  events = p ∙ ap (λ (x : Reading). laid 0 x.events es₀) (sym e);
  activities = q ∙ ap (λ (x : Reading). laid 0 x.activities acts₀) (sym e);
  lots = s ∙ ap (λ (x : Reading). laid 0 x.lots ls₀) (sym e);
  steps = t ∙ ap (λ (x : Reading). laid 0 x.steps ss₀) (sym e);
}

-- a section that was read to its end: its count and the bytes after it, and its records at the front of the table
module _ {A : Type 0} (read : Spot → List ℕ → Result (A × List ℕ) RecordFault) (section : Section) where
  pub record SectionRead (total cells : ℕ) (bs : List ℕ) (n : ℕ) (rest : List ℕ) (table old : List A) : Type 0 where
    pub answers : (section_of read section total cells bs).1 ≡ Ok (n, rest)
    pub filled : table ≡ laid 0 (section_of read section total cells bs).0 old
    pub front : (k : ℕ) → k ≡ n → take k table ≡ (section_of read section total cells bs).0

  pub section_read : (total left cells : ℕ) (bs : List ℕ) (n : ℕ) (rest : List ℕ) (table old : List A) → left ≡ total → Ok (n, rest) ≡ (section_of read section left cells bs).1
      → table ≡ laid 0 (section_of read section left cells bs).0 old → SectionRead total cells bs n rest table old
  section_read total left cells bs n rest table old t a c =
      let e : (section_of read section total cells bs).1 ≡ Ok (n, rest) = ap (λ (k : ℕ). (section_of read section k cells bs).1) (sym t) ∙ sym a in
      let f : table ≡ laid 0 (section_of read section total cells bs).0 old = c ∙ ap (λ (k : ℕ). laid 0 (section_of read section k cells bs).0 old) t in
      record {
        answers = e;
        filled = f;
        front = λ (k : ℕ) h. ap (λ (j : ℕ). take j table) h ∙ ap (take n) f ∙ section_front read section total cells bs n rest old e;
      }

-- the terms, read from all of the bytes
pub terms_read : (bs : List ℕ) (total : ℕ) (all : List ℕ) (period : ℕ) (rest : List ℕ) → total ≡ length bs → all ≡ bs → Ok (period, rest) ≡ terms_of total all → terms_of (length bs) bs ≡ Ok (period, rest)
terms_read bs total all period rest t a e = ap (terms_of (length bs)) (sym a) ∙ ap (λ (k : ℕ). terms_of k all) (sym t) ∙ sym e

module _ (room : Room) (bs : List ℕ) (period : ℕ) (rest : List ℕ) (n : ℕ) (rest₂ : List ℕ) (known : List Event) where
  abbrev pub events_read : List Event
  events_read = (section_of (event_of period) Events (length bs) room.events rest).0

  abbrev pub activities_read : List Activity
  activities_read = (section_of (activity_of known) Activities (length bs) room.activities rest₂).0

  pub at_activities : terms_of (length bs) bs ≡ Ok (period, rest) → (section_of (event_of period) Events (length bs) room.events rest).1 ≡ Ok (n, rest₂) → known ≡ events_read
      → (o : Result (ℕ × List ℕ) SheetFault) → (section_of (activity_of known) Activities (length bs) room.activities rest₂).1 ≡ o
      → reading_of room bs ≡ activities_then (length bs) period events_read n room (activities_read, o)
  at_activities t e k o q =
      ap (terms_then (length bs) room) t
      ∙ ap (λ (x : Result (ℕ × List ℕ) SheetFault). events_then (length bs) period room (events_read, x)) e
      ∙ ap (λ (x : List Event). activities_then (length bs) period events_read n room (section_of (activity_of x) Activities (length bs) room.activities rest₂)) (sym k)
      ∙ ap (λ (x : Result (ℕ × List ℕ) SheetFault). activities_then (length bs) period events_read n room (activities_read, x)) q

  pub at_lots : terms_of (length bs) bs ≡ Ok (period, rest) → (section_of (event_of period) Events (length bs) room.events rest).1 ≡ Ok (n, rest₂) → known ≡ events_read
      → (m : ℕ) (rest₃ : List ℕ) (acts : List Activity) → (section_of (activity_of known) Activities (length bs) room.activities rest₂).1 ≡ Ok (m, rest₃) → acts ≡ activities_read
      → reading_of room bs ≡ lots_then period events_read n activities_read m (lots_section_of acts (length bs) room.lots room.steps rest₃)
  at_lots t e k m rest₃ acts q a =
      at_activities t e k (Ok (m, rest₃)) q
      ∙ ap (λ (x : List Activity). lots_then period events_read n activities_read m (lots_section_of x (length bs) room.lots room.steps rest₃)) (sym a)
