-- The laws of the model, for every well-formed sheet, every carry rule and tariff that keep their laws, all delays and all marks.
--
--   yard              the yard of a sheet, a rule, delays and marks
--   Reported          every noted delay is at most the period
--   Clear             delays meet at no event, and no lot is tangled
--   ByBills           a choice as the bills of a tariff have it; cost and event_bill: its toll and bills
--   OneLeast          there is exactly one least lawful lateness for each choice
--   LawfulByDeduct    lawful as the published model has it: the tail's lateness less the head's is at most the margin
--   AChoice           there is a choice as the bills have it
--   NoRivalCheaper    where the yard is clear, no rival is cheaper than that choice with its least lateness
--   TollByBills       the toll of that choice is the struck lots' charges and the bills of the delays
--   LightBills        a bill is no bulkier than all the lots: each counts at most once
--   TanglesFound      going along a lot's way once finds whether it is tangled
--   WithinReserves    every event is within its tolerance exactly when every delay is within its reserve
--   ReserveAlone      an event's reserve is the greatest delay that it alone may have
--   MinutesToll       under deduct and parcel-minutes, the toll as the published model has it
use Rattle.std.specs.Prelude.{◌≡◌, ℕ, ◌-◌, ◌*◌, ◌<◌, ◌≤◌, true, false, cond, ◌↔◌, Decides, ◌==◌}
use Rattle.sheet.specs.Rules.{Tables, well_formed, activity_at}
use Rattle.carry.specs.Handed.{deducted}
use Rattle.tariff.specs.Tolls.{numbers}
use Rattle.tariff.specs.Prices.{Prices}
use Rattle.tariff.specs.Minutes.{by_minutes}
use Rattle.sums.specs.Totals.{total, lots_weight}
use Rattle.model.specs.declared.mark.Mark.{Mark}
use Rattle.model.specs.Yard.{Yard, event_count, activity_count, tail, head, noted}
use Rattle.model.specs.Lateness.{Choice, binds, Lawful, Least, least, worst}
use Rattle.model.specs.Meeting.{meets}
use Rattle.model.specs.Lots.{lot_count, the_lot, end, missed}
use Rattle.model.specs.Tangles.{TangledLot, tangled}
use Rattle.model.specs.Tolls.{fares_of, toll, bill, plan_toll, Planned}
use Rattle.model.specs.Reserves.{tolerance, reserve}

abbrev pub yard : Tables → (ℕ → ℕ → ℕ) → (ℕ → ℕ) → (ℕ → Mark) → Yard
yard t rule delay mark = record { sheet = t; rule = rule; delay = delay; mark = mark }

abbrev pub Reported : Yard → Type 0
Reported g = (e : ℕ) → e < event_count g → noted g e ≤ g.sheet.period

pub record Clear (g : Yard) : Type 0 where
  pub no_meeting : (e : ℕ) → e < event_count g → meets g e ≡ false
  pub no_tangle : (i : ℕ) → i < lot_count g → TangledLot g i → ⊥

-- ---- lateness

abbrev pub OneLeastAt : Yard → Choice → Type 0
OneLeastAt g z = Least g z (least g z) × ((y : ℕ → ℕ) → Least g z y → (e : ℕ) → e < event_count g → y e ≡ least g z e)

abbrev pub OneLeast : (ℕ → ℕ → ℕ) → Type 0
OneLeast rule = (t : Tables) (delay : ℕ → ℕ) (mark : ℕ → Mark) → well_formed t ≡ true → (z : Choice) → OneLeastAt (yard t rule delay mark) z

abbrev pub MarginsKept : Yard → Choice → (ℕ → ℕ) → Type 0
MarginsKept g z y =
    ((e : ℕ) → e < event_count g → noted g e ≤ y e)
    × ((a : ℕ) → a < activity_count g → binds g z a ≡ true → y (tail g a) - y (head g a) ≤ (activity_at g.sheet.activities a).margin)

abbrev pub LawfulByDeduct : Type 0
LawfulByDeduct =
    (t : Tables) (delay : ℕ → ℕ) (mark : ℕ → Mark) (z : Choice) (y : ℕ → ℕ) →
    Lawful (yard t deducted delay mark) z y ↔ MarginsKept (yard t deducted delay mark) z y

-- ---- the cheapest choice

module _ {A : Type 0} (p : Prices A) where
  -- a choice, its toll and an event's bill, under a tariff's prices
  abbrev pub ByBills : Yard → Choice → Type 0
  ByBills g z = Planned g p.tolls (fares_of p g) z

  abbrev pub cost : Yard → Choice → (ℕ → ℕ) → A
  cost g z y = toll g p.tolls (fares_of p g) z y

  abbrev pub event_bill : Yard → ℕ → A
  event_bill g e = bill g p.tolls (fares_of p g) e

  -- a rival takes wait or go at each unmarked transfer, and any lateness that is lawful for its choices, above the period too
  abbrev pub NoRivalAt : Yard → Choice → Type 0
  NoRivalAt g z = (rival : Choice) (y : ℕ → ℕ) → Lawful g rival y → p.tolls.at_most (cost g z (least g z)) (cost g rival y) ≡ true

  abbrev pub ByBillsAt : Yard → Choice → Type 0
  ByBillsAt g z = cost g z (least g z) ≡ plan_toll g p.tolls (fares_of p g)

  abbrev pub LightAt : Yard → Type 0
  LightAt g = (e : ℕ) → p.tolls.bulk (event_bill g e) ≤ lots_weight g.sheet.lots

module _ {A : Type 0} (rule : ℕ → ℕ → ℕ) (p : Prices A) where
  -- what holds of every clear yard with delays of at most the period
  abbrev OfClear : (Yard → Type 0) → Type 0
  OfClear holds =
      (t : Tables) (delay : ℕ → ℕ) (mark : ℕ → Mark) → well_formed t ≡ true → Reported (yard t rule delay mark) → Clear (yard t rule delay mark) → holds (yard t rule delay mark)

  abbrev pub AChoice : Type 0
  AChoice = (t : Tables) (delay : ℕ → ℕ) (mark : ℕ → Mark) → well_formed t ≡ true → (z : Choice) × ByBills p (yard t rule delay mark) z

  abbrev pub NoRivalCheaper : Type 0
  NoRivalCheaper = OfClear (λ g. (z : Choice) → ByBills p g z → NoRivalAt p g z)

  abbrev pub TollByBills : Type 0
  TollByBills = OfClear (λ g. (z : Choice) → ByBills p g z → ByBillsAt p g z)

  abbrev pub LightBills : Type 0
  LightBills = OfClear (LightAt p)

-- the toll under parcel-minutes: parcels times the end's lateness, or times the period where a connection on the way is missed
abbrev pub MinutesAt : Yard → Choice → (ℕ → ℕ) → Type 0
MinutesAt g z y =
    cost by_minutes g z y
    ≡ total numbers (lot_count g) (λ i. (the_lot g i).parcels * cond (missed g z i) g.sheet.period (y (end g i)))

abbrev pub MinutesToll : Type 0
MinutesToll = (t : Tables) (delay : ℕ → ℕ) (mark : ℕ → Mark) (z : Choice) (y : ℕ → ℕ) → MinutesAt (yard t deducted delay mark) z y

-- ---- reserves

-- no event is later than its tolerance, all unstruck transfers waiting
abbrev pub Tolerated : Yard → Type 0
Tolerated g = (e : ℕ) → e < event_count g → worst g e ≤ tolerance g e

-- no noted delay is above its event's reserve
abbrev pub Reserved : Yard → Type 0
Reserved g = (e : ℕ) → e < event_count g → noted g e ≤ reserve g e

abbrev pub WithinReserves : (ℕ → ℕ → ℕ) → Type 0
WithinReserves rule =
    (t : Tables) (delay : ℕ → ℕ) (mark : ℕ → Mark) → well_formed t ≡ true → Tolerated (yard t rule delay mark) ↔ Reserved (yard t rule delay mark)

-- a delay at one event, and none elsewhere
abbrev pub alone : ℕ → ℕ → ℕ → ℕ
alone event minutes e = cond (e == event) minutes 0

abbrev pub ReserveAlone : (ℕ → ℕ → ℕ) → Type 0
ReserveAlone rule =
    (t : Tables) (delay : ℕ → ℕ) (mark : ℕ → Mark) → well_formed t ≡ true → (event minutes : ℕ) → event < event_count (yard t rule delay mark) →
    Tolerated (yard t rule (alone event minutes) mark) ↔ (minutes ≤ reserve (yard t rule delay mark) event)

-- ---- tangled lots

abbrev pub TanglesFound : Type 0
TanglesFound = (g : Yard) (i : ℕ) → Decides (tangled g i) (TangledLot g i)
