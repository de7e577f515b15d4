-- Plans in tables.
--
--   TollOfPlan  the toll that every plan of the yard has
--   PlanIn      tables that hold the choice by bills and its least lateness, with their toll, which no rival beats, and how many unmarked transfers go
use Rattle.std.specs.Prelude.{◌≡◌, ℕ, ◌<◌, true, List, slice_index}
use Rattle.tariff.specs.Prices.{Prices}
use Rattle.model.specs.Yard.{Yard, activity_count}
use Rattle.model.specs.Lateness.{Choice, binds, Lawful, Least, least}
use Rattle.model.specs.Laws.{ByBills, cost}
use Rattle.timetable.specs.Parts.{waits_by}
use Rattle.owed.specs.Owed.{by_bills}
use Rattle.tolls.specs.Written.{minutes_in}
use Rattle.choice.specs.Chosen.{byte, gone_count}

pub record PlanIn {A : Type 0} (p : Prices A) (g : Yard) (late gone : List ℕ) (toll : A) (count : ℕ) : Type 0 where
  -- the bytes: 1 for an activity that goes, 0 for one that waits; and they are the choice by bills
  pub bytes : (a : ℕ) → a < activity_count g → slice_index gone a ≡ byte (binds g (waits_by gone) a)
  pub choice : ByBills p g (waits_by gone)
  -- the lateness is lawful for it, and at no event later than any that is
  pub lateness : Least g (waits_by gone) (minutes_in late)
  -- the toll is theirs, and no rival's is lower
  pub toll_is : toll ≡ cost p g (waits_by gone) (minutes_in late)
  pub cheapest : (x : Choice) (y : ℕ → ℕ) → Lawful g x y → p.tolls.at_most toll (cost p g x y) ≡ true
  pub count_is : count ≡ gone_count g gone

-- the toll of the choice by bills with its least lateness, and so of every plan
pub record TollOfPlan {A : Type 0} (p : Prices A) (g : Yard) (toll : A) : Type 0 where
  pub by_bills_is : toll ≡ by_bills p g
  pub as_planned : (z : Choice) → ByBills p g z → toll ≡ cost p g z (least g z)
