-- What the lots over a struck transfer pay together, as the model has it.
use Rattle.std.proofs.Common.{◌≡◌, ℕ, Bool, not, length, refl, ap, ◌∙◌}
use Rattle.sheet.specs.Rules.{lot_at, stretch}
use Rattle.tariff.specs.Prices.{Prices, LawfulPrices}
use Rattle.sums.specs.Totals.{lots_total, paid_at}
use Rattle.model.specs.Yard.{Yard, transfer, struck}
use Rattle.model.specs.Lots.{lot_count, path, unstruck, whole}
use Rattle.model.specs.Tolls.{fares_of, given, struck_charges}
use Rattle.model.proofs.Sums.{sum_same}
use Rattle.model.proofs.Rooms.{lost_loop}
use Rattle.model.proofs.Bulks.{loop_is}
use Rattle.timetable.specs.declared.day.Day.{Day}
use Rattle.timetable.specs.Days.{yard_of}
use Rattle.timetable.specs.Parts.{lots_on}
use Rattle.timetable.proofs.Strides.{unstruck_same}
use Rattle.owed.specs.Owed.{struck_due, by_strikes}

pub struck_all : (rule : ℕ → ℕ → ℕ) (d : Day) {A : Type 0} (p : Prices A) → LawfulPrices p → lots_total p.tolls (struck_due p d) d.sheet.lots.now ≡ by_strikes p (yard_of rule d)
unfolding struck_charges lot_count path
struck_all rule d p fair = sum_same fair.tolls (length d.sheet.lots.now) _ _ (λ i h. each i)
  where
    each : (i : ℕ) → paid_at (struck_due p d) d.sheet.lots.now i
        ≡ given p.tolls (not (unstruck (yard_of rule d) (stretch (lot_at d.sheet.lots.now i) d.sheet.steps.now))) (p.miss (lot_at d.sheet.lots.now i).class (lot_at d.sheet.lots.now i).parcels d.sheet.period)
    each i =
        ap (λ (b : Bool). given p.tolls (not b) (p.miss (lot_at d.sheet.lots.now i).class (lot_at d.sheet.lots.now i).parcels d.sheet.period)) (unstruck_same rule d (stretch (lot_at d.sheet.lots.now i) d.sheet.steps.now))

-- no rule enters what the strikes cost
pub strikes_same : (rule : ℕ → ℕ → ℕ) (d : Day) {A : Type 0} (p : Prices A) → by_strikes p (lots_on d) ≡ by_strikes p (yard_of rule d)
unfolding struck_charges lot_count path struck transfer
strikes_same rule d p = refl

-- added up lot by lot
pub strikes_loop : {A : Type 0} (g : Yard) (p : Prices A) → LawfulPrices p → lost_loop g p.tolls (fares_of p g) (lot_count g) ≡ by_strikes p g
unfolding struck_charges
strikes_loop g p fair = loop_is p.tolls fair.tolls p.tolls.nought (lot_count g) (λ i. not (whole g i)) (fares_of p g).miss ∙ fair.tolls.neutral _
