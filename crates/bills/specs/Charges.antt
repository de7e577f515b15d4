-- What one lot of a day pays towards a bill.
--
--   late_due    the late charge of a whole lot that ends at an event
--   miss_due    the miss charge of a whole lot over a transfer
--   Chargeable  a lot of the day, to be charged so many minutes at most
use Rattle.std.specs.Prelude.{ℕ, ◌≤◌, ◌&&◌, ◌==◌}
use Rattle.sheet.specs.declared.records.Lot.{Lot}
use Rattle.sheet.specs.Rules.{stretch}
use Rattle.tariff.specs.Prices.{Prices}
use Rattle.model.specs.Lots.{finish, unstruck, over}
use Rattle.model.specs.Tolls.{given}
use Rattle.timetable.specs.declared.day.Day.{Day}
use Rattle.timetable.specs.Parts.{LotOf, lots_on}

abbrev pub late_due : {A : Type 0} → Prices A → Day → ℕ → ℕ → Lot → A
late_due p d e minutes lot =
    given p.tolls (unstruck (lots_on d) (stretch lot d.sheet.steps.now) && finish (lots_on d) (stretch lot d.sheet.steps.now) == e) (p.late lot.class lot.parcels minutes)

abbrev pub miss_due : {A : Type 0} → Prices A → Day → ℕ → Lot → A
miss_due p d a lot =
    given p.tolls (unstruck (lots_on d) (stretch lot d.sheet.steps.now) && over a (stretch lot d.sheet.steps.now)) (p.miss lot.class lot.parcels d.sheet.period)

pub record Chargeable (d : Day) (minutes : ℕ) (lot : Lot) : Type 0 where
  pub of : LotOf d lot
  pub short : minutes ≤ 1440
