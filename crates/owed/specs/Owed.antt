-- What a plan would cost, and what of it the strikes alone cost.
--
--   struck_due       the miss charge of a lot with a struck transfer on its way
--   by_strikes       what all such lots pay, under a tariff's prices
--   by_bills         the struck lots' charges and the bills of the events with a noted delay, under a tariff's prices
--   ClearlyBilled    a column that holds every event's bill under some lawful rule by which the day is clear
use Rattle.std.specs.Prelude.{ℕ, not, List}
use Rattle.sheet.specs.declared.records.Lot.{Lot}
use Rattle.sheet.specs.Rules.{stretch}
use Rattle.carry.specs.Laws.{LawfulRule}
use Rattle.tariff.specs.Prices.{Prices}
use Rattle.model.specs.Yard.{Yard}
use Rattle.model.specs.Lots.{unstruck}
use Rattle.model.specs.Tolls.{fares_of, given, struck_charges, plan_toll}
use Rattle.model.specs.Laws.{Clear}
use Rattle.timetable.specs.declared.day.Day.{Day}
use Rattle.timetable.specs.Days.{yard_of}
use Rattle.timetable.specs.Parts.{lots_on}
use Rattle.bills.specs.Columns.{Billed}

module _ {A : Type 0} (p : Prices A) where
  abbrev pub struck_due : Day → Lot → A
  struck_due d lot = given p.tolls (not (unstruck (lots_on d) (stretch lot d.sheet.steps.now))) (p.miss lot.class lot.parcels d.sheet.period)

  abbrev pub by_strikes : Yard → A
  by_strikes g = struck_charges g p.tolls (fares_of p g)

  abbrev pub by_bills : Yard → A
  by_bills g = plan_toll g p.tolls (fares_of p g)

  pub record ClearlyBilled (d : Day) (cells : List A) : Type 0 where
    pub rule : ℕ → ℕ → ℕ
    pub lawful : LawfulRule rule
    pub clear : Clear (yard_of rule d)
    pub billed : Billed p rule d cells
