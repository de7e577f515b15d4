-- A plan as the published model has it: margins, and parcel-minutes lost.
--
--   minutes_lost     the sum over lots of parcels times the end's lateness, or times the period where a connection on the way is missed
--   PublishedPlan    lateness that keeps the margins, at no event later than any that does, and the minutes lost as toll
use Rattle.std.specs.Prelude.{◌≡◌, ℕ, ◌*◌, ◌<◌, ◌≤◌, cond, List}
use Rattle.tariff.specs.Tolls.{numbers}
use Rattle.sums.specs.Totals.{total}
use Rattle.model.specs.Yard.{Yard, event_count}
use Rattle.model.specs.Lateness.{Choice}
use Rattle.model.specs.Lots.{lot_count, the_lot, end, missed}
use Rattle.model.specs.Laws.{MarginsKept}
use Rattle.timetable.specs.Parts.{waits_by}
use Rattle.tolls.specs.Written.{minutes_in}

abbrev pub minutes_lost : Yard → Choice → (ℕ → ℕ) → ℕ
minutes_lost g z y = total numbers (lot_count g) (λ i. (the_lot g i).parcels * cond (missed g z i) g.sheet.period (y (end g i)))

pub record PublishedPlan (g : Yard) (late gone : List ℕ) (toll : ℕ) : Type 0 where
  pub margins : MarginsKept g (waits_by gone) (minutes_in late)
  pub no_later : (y : ℕ → ℕ) → MarginsKept g (waits_by gone) y → (e : ℕ) → e < event_count g → minutes_in late e ≤ y e
  pub toll_is : toll ≡ minutes_lost g (waits_by gone) (minutes_in late)
