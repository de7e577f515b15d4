-- What all lots pay for what was written, as the model has it.
use Rattle.std.proofs.Common.{◌≡◌, ℕ, ◌-◌, ◌<◌, Bool, cond, not, List, length, get_or, refl, ap, ◌∙◌, arith}
use Rattle.sheet.specs.Rules.{lot_at, stretch}
use Rattle.tariff.specs.Prices.{Prices, LawfulPrices}
use Rattle.sums.specs.Totals.{Each, lots_total, paid_at}
use Rattle.model.specs.Yard.{transfer, struck, unmarked}
use Rattle.model.specs.Finite.{some}
use Rattle.model.specs.Lateness.{Choice, binds}
use Rattle.model.specs.Lots.{lot_count, path, finish, gone}
use Rattle.model.specs.Tolls.{fares_of, pay, toll}
use Rattle.model.specs.Laws.{cost}
use Rattle.model.proofs.Sums.{sum_same}
use Rattle.timetable.specs.declared.day.Day.{Day}
use Rattle.timetable.specs.Days.{yard_of}
use Rattle.timetable.specs.Parts.{lots_on, waits_by, gone_by, missed_by}
use Rattle.timetable.proofs.Stances.{leads}
use Rattle.timetable.proofs.Strides.{lot_walks, finish_last, finish_same, some_same}
use Rattle.tolls.specs.Written.{Written, Payable, pay_due, minutes_in}

pub each_lot : (d : Day) (late bytes : List ℕ) → Written d late bytes → Each (Payable d late bytes) d.sheet.lots.now
each_lot d late bytes w i h = record { of = record { number = i; within = h; is = refl }; written = w }

-- no rule enters what binds
pub binds_same : (rule : ℕ → ℕ → ℕ) (d : Day) (z : Choice) (a : ℕ) → binds (lots_on d) z a ≡ binds (yard_of rule d) z a
unfolding struck unmarked transfer
binds_same rule d z a = refl

module _ (rule : ℕ → ℕ → ℕ) (d : Day) (late bytes : List ℕ) (w : Written d late bytes) where
  -- the bytes say of a lot's steps what the choice does
  missed_same : (i : ℕ) → i < length d.sheet.lots.now → missed_by bytes (stretch (lot_at d.sheet.lots.now i) d.sheet.steps.now) ≡ some (gone (yard_of rule d) (waits_by bytes)) (stretch (lot_at d.sheet.lots.now i) d.sheet.steps.now)
  missed_same i h =
      let s = stretch (lot_at d.sheet.lots.now i) d.sheet.steps.now in
      let k = lot_walks d (lot_at d.sheet.lots.now i) (record { number = i; within = h; is = refl }) s refl in
      some_same (gone_by bytes) (gone (yard_of rule d) (waits_by bytes)) s (λ j n. ap not (w.tells (get_or s j 0) (k.known j n) ∙ binds_same rule d (waits_by bytes) (get_or s j 0)))

  pub pay_all : {A : Type 0} (p : Prices A) → LawfulPrices p → lots_total p.tolls (pay_due p d late bytes) d.sheet.lots.now ≡ cost p (yard_of rule d) (waits_by bytes) (minutes_in late)
  unfolding toll lot_count path
  pay_all {A} p fair = sum_same fair.tolls (length d.sheet.lots.now) _ _ each
    where
      each : (i : ℕ) → i < length d.sheet.lots.now → paid_at (pay_due p d late bytes) d.sheet.lots.now i
          ≡ cond (some (gone (yard_of rule d) (waits_by bytes)) (stretch (lot_at d.sheet.lots.now i) d.sheet.steps.now)) (p.miss (lot_at d.sheet.lots.now i).class (lot_at d.sheet.lots.now i).parcels d.sheet.period) (p.late (lot_at d.sheet.lots.now i).class (lot_at d.sheet.lots.now i).parcels (minutes_in late (finish (yard_of rule d) (stretch (lot_at d.sheet.lots.now i) d.sheet.steps.now))))
      each i h =
          let s = stretch (lot_at d.sheet.lots.now i) d.sheet.steps.now in
          let c = (lot_at d.sheet.lots.now i).class in
          let n = (lot_at d.sheet.lots.now i).parcels in
          ap (λ (b : Bool). cond b (p.miss c n d.sheet.period) (p.late c n (minutes_in late (finish (lots_on d) s)))) (missed_same i h)
          ∙ ap (λ (k : ℕ). cond (some (gone (yard_of rule d) (waits_by bytes)) s) (p.miss c n d.sheet.period) (p.late c n (minutes_in late k))) (finish_same rule d s)

-- the toll asks for the lateness of the sheet's events alone
pub cost_same : {A : Type 0} (rule : ℕ → ℕ → ℕ) (d : Day) (p : Prices A) (z : Choice) (y x : ℕ → ℕ) → LawfulPrices p → ((e : ℕ) → e < length d.sheet.events.now → y e ≡ x e)
    → cost p (yard_of rule d) z y ≡ cost p (yard_of rule d) z x
unfolding toll lot_count path
cost_same rule d p z y x fair same = sum_same fair.tolls (length d.sheet.lots.now) _ _ each
  where
    each : (i : ℕ) → i < length d.sheet.lots.now → pay (yard_of rule d) p.tolls (fares_of p (yard_of rule d)) z y i ≡ pay (yard_of rule d) p.tolls (fares_of p (yard_of rule d)) z x i
    each i h =
        let s = stretch (lot_at d.sheet.lots.now i) d.sheet.steps.now in
        let w = lot_walks d (lot_at d.sheet.lots.now i) (record { number = i; within = h; is = refl }) s refl in
        let last = get_or s (length s - 1) 0 in
        let n = (leads d last (w.known (length s - 1) (omega (arith, w.some_steps)))).1 in
        let f = finish_last rule d s w in
        ap (λ (k : ℕ). cond (some (gone (yard_of rule d) z) s) (p.miss (lot_at d.sheet.lots.now i).class (lot_at d.sheet.lots.now i).parcels d.sheet.period) (p.late (lot_at d.sheet.lots.now i).class (lot_at d.sheet.lots.now i).parcels k)) (same (finish (yard_of rule d) s) (omega (arith, n, f)))
