-- The three yards, by reckoning.
use Rattle.std.proofs.Common.{◌≡◌, ℕ, zero, suc, ◌<◌, ◌≤◌, Bool, true, false, List, refl, ap, ◌∙◌, arith}
use Rattle.std.proofs.lemmas.Bool.{both_ways}
use Rattle.carry.specs.Handed.{deducted}
use Rattle.tariff.specs.Prices.{Prices}
use Rattle.tariff.specs.Minutes.{by_minutes}
use Rattle.tariff.specs.Ranks.{by_rank}
use Rattle.sums.specs.Totals.{total}
use Rattle.model.specs.Yard.{Yard, event_count, activity_count, tail, head, handed, noted, transfer, struck, unmarked}
use Rattle.model.specs.Finite.{top, low, count, some, turns}
use Rattle.model.specs.Lateness.{Choice, binds, least, worst}
use Rattle.model.specs.Meeting.{sources, meets}
use Rattle.model.specs.Lots.{lot_count, path, ends}
use Rattle.model.specs.Tangles.{scan, tangled}
use Rattle.model.specs.Tolls.{fares_of, toll, late_lots, miss_bill, bill, struck_charges, plan_toll, Planned}
use Rattle.model.specs.Reserves.{tolerance, greatest, reserve}
use Rattle.model.specs.Laws.{yard, ByBills, cost}
use Rattle.model.specs.Examples.{listed, late_by, mixed_yard, HypothesesMet, ComesTo, on_time, no_marks, yard_sheet, late_yard, YardSheetWorked, YardSheetTold, longer_yard, LongerWorked}
use Rattle.model.proofs.Tangles.{tangled_decides}

no_meeting : (e : ℕ) → e < 5 → meets mixed_yard e ≡ false
unfolding event_count activity_count tail head handed noted transfer struck unmarked top count turns least worst sources
no_meeting zero h = refl
no_meeting (suc zero) h = refl
no_meeting (suc (suc zero)) h = refl
no_meeting (suc (suc (suc zero))) h = refl
no_meeting (suc (suc (suc (suc zero)))) h = refl
no_meeting (suc (suc (suc (suc (suc e))))) h = absurd (omega arith)

not_tangled : (i : ℕ) → i < 4 → tangled mixed_yard i ≡ false
unfolding event_count activity_count tail head handed noted transfer struck unmarked top turns least worst lot_count path ends some scan tangled
not_tangled zero h = refl
not_tangled (suc zero) h = refl
not_tangled (suc (suc zero)) h = refl
not_tangled (suc (suc (suc zero))) h = refl
not_tangled (suc (suc (suc (suc i)))) h = absurd (omega arith)

noted_small : (e : ℕ) → e < 5 → noted mixed_yard e ≤ 60
unfolding event_count noted
noted_small zero h = omega arith
noted_small (suc zero) h = omega arith
noted_small (suc (suc zero)) h = omega arith
noted_small (suc (suc (suc zero))) h = omega arith
noted_small (suc (suc (suc (suc zero)))) h = omega arith
noted_small (suc (suc (suc (suc (suc e))))) h = absurd (omega arith)

pub hypotheses_met : HypothesesMet
unfolding total event_count activity_count tail head handed noted transfer struck unmarked top count turns least worst sources lot_count path ends some late_lots miss_bill bill struck_charges plan_toll
hypotheses_met = record {
  formed = refl;
  reported = noted_small;
  clear = record { no_meeting = no_meeting; no_tangle = λ i h t. both_ways (tangled mixed_yard i) (not_tangled i h) ((tangled_decides mixed_yard i).1 t) };
  open_live = (refl, refl);
  held_live = (refl, refl);
  struck_off = (refl, refl);
  dead = (refl, refl);
  toll_is = refl;
}

pub yard_sheet_worked : YardSheetWorked
unfolding Planned total event_count activity_count tail head handed noted transfer struck unmarked top low count turns least worst sources lot_count path ends some toll late_lots miss_bill bill struck_charges plan_toll tolerance greatest reserve
yard_sheet_worked = record {
  formed = refl;
  reserves = refl;
  on_time = refl;
  waiting = refl;
  miss_40 = refl;
  bill_40 = refl;
  toll_40 = refl;
  waits_40 = λ z h. h 1 (omega arith) refl;
  bill_45 = refl;
  toll_45 = refl;
  goes_45 = λ z h. h 1 (omega arith) refl;
  going_lateness = refl;
  going_toll = refl;
  meeting = refl;
  parted = refl;
  parted_lateness = refl;
  parted_toll = refl;
}

-- a yard whose one open transfer is 1: what a choice says of that is all that it says
module _ {A : Type 0} (p : Prices A) (g : Yard) (waits : Bool) where
  abbrev lateness_by : Choice → List ℕ
  lateness_by z = listed (event_count g) (least g z)

  abbrev cost_by : Choice → A
  cost_by z = cost p g z (least g z)

  by_one : (lateness : List ℕ) (toll : A) → ((z : Choice) → ByBills p g z → z 1 ≡ waits)
      → ((z : Choice) → binds g z 1 ≡ z 1) → ((z : Choice) → lateness_by z ≡ lateness_by (λ a. z 1)) → ((z : Choice) → cost_by z ≡ cost_by (λ a. z 1))
      → lateness_by (λ a. waits) ≡ lateness → cost_by (λ a. waits) ≡ toll → plan_toll g p.tolls (fares_of p g) ≡ toll → ComesTo p g waits lateness toll
  by_one lateness toll so one lates costs late cost bills = record {
    decided = λ z h. one z ∙ so z h;
    late = λ z h. lates z ∙ ap (λ (b : Bool). lateness_by (λ a. b)) (so z h) ∙ late;
    costs = λ z h. costs z ∙ ap (λ (b : Bool). cost_by (λ a. b)) (so z h) ∙ cost;
    by_bills = bills;
  }

pub yard_sheet_told : YardSheetTold
unfolding Planned total event_count activity_count tail head handed noted transfer struck unmarked top low count turns least worst sources lot_count path ends some toll late_lots miss_bill bill struck_charges plan_toll tolerance greatest reserve
yard_sheet_told = record {
  formed = refl;
  reserves = refl;
  quiet = by_one by_minutes (yard (yard_sheet 40) deducted on_time no_marks) true _ _ (λ z h. h 1 (omega arith) refl) (λ z. refl) (λ z. refl) (λ z. refl) refl refl refl;
  worst_40 = refl;
  miss_40 = refl;
  bill_40 = refl;
  waiting = by_one by_minutes (late_yard 40) true _ _ (λ z h. h 1 (omega arith) refl) (λ z. refl) (λ z. refl) (λ z. refl) refl refl refl;
  bill_45 = refl;
  going = by_one by_minutes (late_yard 45) false _ _ (λ z h. h 1 (omega arith) refl) (λ z. refl) (λ z. refl) (λ z. refl) refl refl refl;
  miss_ranked = refl;
  bill_ranked = refl;
  going_ranked = by_one by_rank (late_yard 40) false _ _ (λ z h. h 1 (omega arith) refl) (λ z. refl) (λ z. refl) (λ z. refl) refl refl refl;
  meeting = refl;
  parted = refl;
  parted_worst = refl;
  struck_off = record { decided = λ z h. refl; late = λ z h. refl; costs = λ z h. refl; by_bills = refl };
}

pub longer_worked : LongerWorked
unfolding Planned total event_count activity_count tail head handed noted transfer struck unmarked top count turns least worst sources lot_count path ends some scan tangled toll late_lots miss_bill bill struck_charges plan_toll
longer_worked = record {
  formed = refl;
  swallowed = by_one by_minutes (longer_yard (late_by 0 10)) true _ _ (λ z h. h 1 (omega arith) refl) (λ z. refl) (λ z. refl) (λ z. refl) refl refl refl;
  apart = refl;
  knot = refl;
}
