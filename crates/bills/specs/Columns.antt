-- The column of bills.
--
--   at_event, over_transfer    the late lots of an event and the miss bill of a transfer, under a tariff's prices
--   lesser                     what an activity adds to its tail's bill, under a tariff's prices
--   BilledFrom                 a column that holds the bills of an event and of those after it
--   Billed                     a column that holds every event's bill
use Rattle.std.specs.Prelude.{◌≡◌, ℕ, ◌<◌, ◌≤◌, List, length, slice_index_or}
use Rattle.tariff.specs.Prices.{Prices}
use Rattle.model.specs.Yard.{Yard}
use Rattle.model.specs.Tolls.{fares_of, late_lots, miss_bill, branch}
use Rattle.model.specs.Laws.{event_bill}
use Rattle.timetable.specs.declared.day.Day.{Day}
use Rattle.timetable.specs.Days.{yard_of}

module _ {A : Type 0} (p : Prices A) where
  abbrev pub at_event : Yard → ℕ → A
  at_event g e = late_lots g p.tolls (fares_of p g) e

  abbrev pub over_transfer : Yard → ℕ → A
  over_transfer g a = miss_bill g p.tolls (fares_of p g) a

  abbrev pub lesser : Yard → ℕ → A → A
  lesser g a x = branch g p.tolls (fares_of p g) a x

  pub record BilledFrom (rule : ℕ → ℕ → ℕ) (d : Day) (cells : List A) (e : ℕ) : Type 0 where
    pub room : length d.sheet.events.now ≤ length cells
    pub holds : (k : ℕ) → e ≤ k → k < length d.sheet.events.now → slice_index_or cells k p.tolls.nought ≡ event_bill p (yard_of rule d) k

  abbrev pub Billed : (ℕ → ℕ → ℕ) → Day → List A → Type 0
  Billed rule d cells = BilledFrom rule d cells 0
