-- The choice by bills, in tables.
--
--   cheap           the miss bill of a transfer is at most its head's bill
--   unless_cheap    the choice that lets every live and cheap transfer go, its tail late or not
--   on_time         an unmarked transfer whose tail is on time, by a table of lateness
--   Chosen          tables that hold the choice by bills and its least lateness
--   gone_count      how many unmarked transfers go by a table of bytes
use Rattle.std.specs.Prelude.{◌≡◌, ℕ, ◌<◌, Bool, cond, not, ◌&&◌, List, ◌==◌, slice_index}
use Rattle.tariff.specs.Prices.{Prices}
use Rattle.model.specs.Yard.{Yard, event_count, activity_count, tail, head, unmarked}
use Rattle.model.specs.Finite.{count}
use Rattle.model.specs.Lateness.{Choice, binds, least}
use Rattle.model.specs.Meeting.{live}
use Rattle.model.specs.Laws.{ByBills, event_bill}
use Rattle.timetable.specs.Parts.{waits_by}
use Rattle.bills.specs.Columns.{over_transfer}

-- the byte of an activity: 0 where it waits, 1 where it goes
abbrev pub byte : Bool → ℕ
byte waits = cond waits 0 1

abbrev pub on_time : Yard → List ℕ → ℕ → Bool
on_time g late a = unmarked g a && slice_index late (tail g a) == 0

abbrev pub goes_unmarked : Yard → List ℕ → ℕ → Bool
goes_unmarked g gone a = unmarked g a && slice_index gone a == 1

abbrev pub gone_count : Yard → List ℕ → ℕ
gone_count g gone = count (activity_count g) (goes_unmarked g gone)

module _ {A : Type 0} (p : Prices A) where
  abbrev pub cheap : Yard → ℕ → Bool
  cheap g a = p.tolls.at_most (over_transfer p g a) (event_bill p g (head g a))

  abbrev pub unless_cheap : Yard → Choice
  unless_cheap g a = not (live g a && cheap g a)

  pub record Chosen (g : Yard) (late gone : List ℕ) : Type 0 where
    pub choice : ByBills p g (waits_by gone)
    pub lateness : (e : ℕ) → e < event_count g → slice_index late e ≡ least g (waits_by gone) e
    pub bytes : (a : ℕ) → a < activity_count g → slice_index gone a ≡ byte (binds g (waits_by gone) a)
