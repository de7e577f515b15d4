-- What the lots pay together, as the model has it.
use Rattle.std.proofs.Common.{◌≡◌, ℕ, ◌≤◌, Bool, ◌&&◌, eqb, length, refl, ap, ◌∙◌, arith}
use Rattle.sheet.specs.Rules.{lot_at, stretch}
use Rattle.tariff.specs.Tolls.{cap}
use Rattle.tariff.specs.Prices.{Prices, LawfulPrices}
use Rattle.sums.specs.Totals.{Each, lots_total, lots_weight, paid_at}
use Rattle.sums.proofs.Weights.{light_sheet}
use Rattle.model.specs.Lateness.{worst}
use Rattle.model.specs.Lots.{lot_count, path, finish, unstruck, over}
use Rattle.model.specs.Tolls.{given, late_lots, miss_bill}
use Rattle.model.proofs.OnSheets.{period_most}
use Rattle.model.proofs.Sums.{sum_same}
use Rattle.timetable.specs.declared.day.Day.{Day}
use Rattle.timetable.specs.Days.{sheet_on, yard_of}
use Rattle.timetable.specs.Parts.{lots_on}
use Rattle.timetable.proofs.Strides.{finish_same, unstruck_same}
use Rattle.bills.specs.Charges.{Chargeable, late_due, miss_due}
use Rattle.bills.specs.Columns.{at_event, over_transfer}

-- every lot of the day can be charged, and together they weigh little
pub each_lot : (d : Day) (minutes : ℕ) → minutes ≤ 1440 → Each (Chargeable d minutes) d.sheet.lots.now
each_lot d minutes s i h = record { of = record { number = i; within = h; is = refl }; short = s }

pub lots_light : (d : Day) → lots_weight d.sheet.lots.now ≤ cap
lots_light d = let l = light_sheet (sheet_on d) d.sheet.kept in omega arith

pub short_day : (d : Day) → d.sheet.period ≤ 1440
short_day d = period_most (sheet_on d) d.sheet.kept

module _ (rule : ℕ → ℕ → ℕ) (d : Day) {A : Type 0} (p : Prices A) (fair : LawfulPrices p) where
  pub late_all : (e minutes : ℕ) → minutes ≡ worst (yard_of rule d) e → lots_total p.tolls (late_due p d e minutes) d.sheet.lots.now ≡ at_event p (yard_of rule d) e
  unfolding late_lots lot_count path
  late_all e minutes m = sum_same fair.tolls (length d.sheet.lots.now) _ _ (λ i h. each i)
    where
      each : (i : ℕ) → paid_at (late_due p d e minutes) d.sheet.lots.now i
          ≡ given p.tolls (unstruck (yard_of rule d) (stretch (lot_at d.sheet.lots.now i) d.sheet.steps.now) && eqb (finish (yard_of rule d) (stretch (lot_at d.sheet.lots.now i) d.sheet.steps.now)) e) (p.late (lot_at d.sheet.lots.now i).class (lot_at d.sheet.lots.now i).parcels (worst (yard_of rule d) e))
      each i =
          let s = stretch (lot_at d.sheet.lots.now i) d.sheet.steps.now in
          let c = (lot_at d.sheet.lots.now i).class in
          let n = (lot_at d.sheet.lots.now i).parcels in
          ap (λ (b : Bool). given p.tolls (b && eqb (finish (lots_on d) s) e) (p.late c n minutes)) (unstruck_same rule d s)
          ∙ ap (λ (k : ℕ). given p.tolls (unstruck (yard_of rule d) s && eqb k e) (p.late c n minutes)) (finish_same rule d s)
          ∙ ap (λ (k : ℕ). given p.tolls (unstruck (yard_of rule d) s && eqb (finish (yard_of rule d) s) e) (p.late c n k)) m

  pub miss_all : (a : ℕ) → lots_total p.tolls (miss_due p d a) d.sheet.lots.now ≡ over_transfer p (yard_of rule d) a
  unfolding miss_bill lot_count path
  miss_all a = sum_same fair.tolls (length d.sheet.lots.now) _ _ (λ i h. each i)
    where
      each : (i : ℕ) → paid_at (miss_due p d a) d.sheet.lots.now i
          ≡ given p.tolls (unstruck (yard_of rule d) (stretch (lot_at d.sheet.lots.now i) d.sheet.steps.now) && over a (stretch (lot_at d.sheet.lots.now i) d.sheet.steps.now)) (p.miss (lot_at d.sheet.lots.now i).class (lot_at d.sheet.lots.now i).parcels d.sheet.period)
      each i =
          let s = stretch (lot_at d.sheet.lots.now i) d.sheet.steps.now in
          ap (λ (b : Bool). given p.tolls (b && over a s) (p.miss (lot_at d.sheet.lots.now i).class (lot_at d.sheet.lots.now i).parcels d.sheet.period)) (unstruck_same rule d s)
