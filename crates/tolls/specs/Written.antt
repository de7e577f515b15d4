-- A choice and a lateness in tables, and what a lot pays for them.
--
--   minutes_in    the lateness that a table says
--   Written       tables long enough, with no lateness above a day, and with bytes that say what goes: a marked activity as its mark has it
--   pay_due       the miss charge of a lot over an activity that goes, and the late charge at its end of any other lot
use Rattle.std.specs.Prelude.{◌≡◌, cond, List, ℕ, ◌≤◌, ◌<◌, length, get_or}
use Rattle.sheet.specs.declared.records.Lot.{Lot}
use Rattle.sheet.specs.Rules.{stretch}
use Rattle.tariff.specs.Prices.{Prices}
use Rattle.model.specs.Lateness.{binds}
use Rattle.model.specs.Lots.{finish}
use Rattle.timetable.specs.declared.day.Day.{Day}
use Rattle.timetable.specs.Parts.{LotOf, lots_on, waits_by, missed_by}

abbrev pub minutes_in : List ℕ → ℕ → ℕ
minutes_in late e = get_or late e 0

pub record Written (d : Day) (late gone : List ℕ) : Type 0 where
  pub late_room : length d.sheet.events.now ≤ length late
  pub gone_room : length d.sheet.activities.now ≤ length gone
  pub short : (e : ℕ) → e < length d.sheet.events.now → get_or late e 0 ≤ 1440
  pub tells : (a : ℕ) → a < length d.sheet.activities.now → waits_by gone a ≡ binds (lots_on d) (waits_by gone) a

abbrev pub pay_due : {A : Type 0} → Prices A → Day → List ℕ → List ℕ → Lot → A
pay_due p d late gone lot =
    cond (missed_by gone (stretch lot d.sheet.steps.now)) (p.miss lot.class lot.parcels d.sheet.period) (p.late lot.class lot.parcels (minutes_in late (finish (lots_on d) (stretch lot d.sheet.steps.now))))

pub record Payable (d : Day) (late gone : List ℕ) (lot : Lot) : Type 0 where
  pub of : LotOf d lot
  pub written : Written d late gone
