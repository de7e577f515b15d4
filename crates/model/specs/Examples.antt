-- Three yards worked through.
--
--   mixed              a sheet with four transfers from one late truck: one unmarked and live, one held, one struck, one that swallows the delay
--   HypothesesMet      on it everything holds that the laws ask for
--   ComesTo            what every choice by the bills comes to: whether transfer 1 waits, the lateness of each event, the toll
--   yard_sheet         the sheet in examples/, with lot 2 at a number of parcels
--   YardSheetWorked    its lateness, bills, tolls and reserves as reckoned by hand
--   YardSheetTold      the same of every choice by the bills, with both kinds of toll
--   longer_sheet       the same with a last stand, over which lot 1 goes on
--   LongerWorked       its toll, and how a delay at its end tangles lot 1
--   WorkedCases        the last two, and the worked cases of the rules
use Rattle.std.specs.Prelude.{◌≡◌, ℕ, zero, suc, ◌+◌, Bool, true, false, cond, List, [], ◌∷◌, ◌==◌}
use Rattle.sheet.specs.declared.records.Side.TheVariants.{Arrival, Departure}
use Rattle.sheet.specs.declared.records.Kind.TheVariants.{Drive, Stand, Transfer}
use Rattle.sheet.specs.declared.records.Class.TheVariants.{Ordinary, Express}
use Rattle.sheet.specs.declared.records.Event.{Event}
use Rattle.sheet.specs.declared.records.Activity.{Activity}
use Rattle.sheet.specs.declared.records.Class.{Class}
use Rattle.sheet.specs.declared.records.Kind.{Kind}
use Rattle.sheet.specs.declared.records.Side.{Side}
use Rattle.sheet.specs.declared.records.Lot.{Lot}
use Rattle.sheet.specs.Rules.{Tables, tables, well_formed}
use Rattle.carry.specs.Handed.{deducted}
use Rattle.carry.specs.Worked.{WorkedRules}
use Rattle.tariff.specs.Tolls.{numbers}
use Rattle.tariff.specs.Prices.{Prices}
use Rattle.tariff.specs.Minutes.{by_minutes}
use Rattle.tariff.specs.Ranks.{ranks, ranked, by_rank}
use Rattle.model.specs.declared.mark.Mark.{Mark}
use Rattle.model.specs.declared.mark.Mark.TheVariants.{Unmarked, Held, Struck}
use Rattle.model.specs.Yard.{Yard, event_count, struck, unmarked}
use Rattle.model.specs.Lateness.{Choice, binds, least, worst, all_wait}
use Rattle.model.specs.Meeting.{live, meets}
use Rattle.model.specs.Tangles.{tangled}
use Rattle.model.specs.Tolls.{fares_of, toll, miss_bill, bill, plan_toll, Planned}
use Rattle.model.specs.Reserves.{reserve}
use Rattle.model.specs.Laws.{yard, Reported, Clear, ByBills, cost, event_bill}

abbrev event : ℕ → ℕ → Side → ℕ → Event
event truck site side tolerance = record { truck = truck; site = site; side = side; tolerance = tolerance }

abbrev activity : Kind → ℕ → ℕ → ℕ → Activity
activity kind tail head margin = record { kind = kind; tail = tail; head = head; margin = margin }

abbrev lot : Class → ℕ → ℕ → ℕ → Lot
lot class parcels first count = record { class = class; parcels = parcels; first = first; count = count }

-- f 0, f 1, .. f (n - 1)
abbrev pub listed : {A : Type 0} → ℕ → (ℕ → A) → List A
listed zero f = []
listed (suc n) f = f 0 ∷ listed n (λ i. f (suc i))

-- ---- held, struck, live and dead

abbrev pub mixed : Tables
mixed = tables 60
    (event 1 10 Arrival 60 ∷ event 2 10 Departure 60 ∷ event 3 10 Departure 60 ∷ event 4 10 Departure 60 ∷ event 5 10 Departure 60 ∷ [])
    (activity Transfer 0 1 3 ∷ activity Transfer 0 2 3 ∷ activity Transfer 0 3 3 ∷ activity Transfer 0 4 30 ∷ [])
    (lot Ordinary 5 0 1 ∷ lot Ordinary 5 1 1 ∷ lot Express 5 2 1 ∷ lot Express 5 3 1 ∷ [])
    (0 ∷ 1 ∷ 2 ∷ 3 ∷ [])

abbrev pub mixed_marks : ℕ → Mark
mixed_marks zero = Unmarked
mixed_marks (suc zero) = Held
mixed_marks (suc (suc zero)) = Struck
mixed_marks (suc (suc (suc n))) = Unmarked

-- one delay
abbrev pub late_by : ℕ → ℕ → ℕ → ℕ
late_by event minutes e = cond (e == event) minutes 0

abbrev pub mixed_yard : Yard
mixed_yard = yard mixed deducted (late_by 0 10) mixed_marks

pub record HypothesesMet : Type 0 where
  pub formed : well_formed mixed ≡ true
  pub reported : Reported mixed_yard
  pub clear : Clear mixed_yard
  pub open_live : (unmarked mixed_yard 0 ≡ true) × (live mixed_yard 0 ≡ true)
  pub held_live : (unmarked mixed_yard 1 ≡ false) × (live mixed_yard 1 ≡ true)
  pub struck_off : (struck mixed_yard 2 ≡ true) × (live mixed_yard 2 ≡ false)
  pub dead : (unmarked mixed_yard 3 ≡ true) × (live mixed_yard 3 ≡ false)
  -- 35 for holding each of the first two, and 300 for the struck one
  pub toll_is : plan_toll mixed_yard numbers (fares_of by_minutes mixed_yard) ≡ 370

-- ---- what a yard comes to

-- the law `AChoice` says that there is a choice by the bills
pub record ComesTo {A : Type 0} (p : Prices A) (g : Yard) (waits : Bool) (lateness : List ℕ) (toll : A) : Type 0 where
  pub decided : (z : Choice) → ByBills p g z → binds g z 1 ≡ waits
  pub late : (z : Choice) → ByBills p g z → listed (event_count g) (least g z) ≡ lateness
  pub costs : (z : Choice) → ByBills p g z → cost p g z (least g z) ≡ toll
  pub by_bills : plan_toll g p.tolls (fares_of p g) ≡ toll

-- no delay, and two delays
abbrev pub on_time : ℕ → ℕ
on_time e = 0

abbrev pub both_late : (ℕ → ℕ) → (ℕ → ℕ) → ℕ → ℕ
both_late one other e = one e + other e

abbrev pub no_marks : ℕ → Mark
no_marks a = Unmarked

abbrev pub strike_one : ℕ → Mark
strike_one a = cond (a == 1) Struck Unmarked

-- ---- the yard sheet

abbrev pub yard_sheet : ℕ → Tables
yard_sheet parcels = tables 60
    (event 1 10 Arrival 60 ∷ event 1 10 Departure 60 ∷ event 2 10 Departure 60 ∷ event 1 20 Arrival 5 ∷ event 2 30 Arrival 5 ∷ [])
    (activity Stand 0 1 2 ∷ activity Transfer 0 2 3 ∷ activity Drive 1 3 0 ∷ activity Drive 2 4 1 ∷ [])
    (lot Ordinary 20 0 2 ∷ lot Ordinary 5 2 2 ∷ lot Express parcels 4 1 ∷ [])
    (0 ∷ 2 ∷ 1 ∷ 3 ∷ 3 ∷ [])

-- the transfer goes, or is struck
abbrev pub going : Choice
going a = false

abbrev pub late_yard : ℕ → Yard
late_yard parcels = yard (yard_sheet parcels) deducted (late_by 0 10) no_marks

abbrev pub two_delays : (ℕ → Mark) → Yard
two_delays marks = yard (yard_sheet 40) deducted (λ e. cond (e == 0) 10 (cond (e == 2) 4 0)) marks

pub record YardSheetWorked : Type 0 where
  pub formed : well_formed (yard_sheet 40) ≡ true
  pub reserves : listed 5 (reserve (late_yard 40)) ≡ 7 ∷ 5 ∷ 6 ∷ 5 ∷ 5 ∷ []
  -- no report: all on time
  pub on_time : plan_toll (yard (yard_sheet 40) deducted (λ e. 0) no_marks) numbers (fares_of by_minutes (yard (yard_sheet 40) deducted (λ e. 0) no_marks)) ≡ 0
  -- event 0 late by 10: missing costs 300, waiting 270, so the transfer waits
  pub waiting : listed 5 (least (late_yard 40) all_wait) ≡ 10 ∷ 8 ∷ 7 ∷ 8 ∷ 6 ∷ []
  pub miss_40 : miss_bill (late_yard 40) numbers (fares_of by_minutes (late_yard 40)) 1 ≡ 300
  pub bill_40 : bill (late_yard 40) numbers (fares_of by_minutes (late_yard 40)) 2 ≡ 270
  pub toll_40 : plan_toll (late_yard 40) numbers (fares_of by_minutes (late_yard 40)) ≡ 430
  pub waits_40 : (z : Choice) → Planned (late_yard 40) numbers (fares_of by_minutes (late_yard 40)) z → z 1 ≡ true
  -- with 45 parcels waiting costs 300 too, and the transfer goes
  pub bill_45 : bill (late_yard 45) numbers (fares_of by_minutes (late_yard 45)) 2 ≡ 300
  pub toll_45 : plan_toll (late_yard 45) numbers (fares_of by_minutes (late_yard 45)) ≡ 460
  pub goes_45 : (z : Choice) → Planned (late_yard 45) numbers (fares_of by_minutes (late_yard 45)) z → z 1 ≡ false
  pub going_lateness : listed 5 (least (late_yard 45) going) ≡ 10 ∷ 8 ∷ 0 ∷ 8 ∷ 0 ∷ []
  pub going_toll : toll (late_yard 45) numbers (fares_of by_minutes (late_yard 45)) going (least (late_yard 45) going) ≡ 460
  -- a second delay, of 4 at event 2: they meet there, and no more once the transfer is struck
  pub meeting : listed 5 (meets (two_delays no_marks)) ≡ false ∷ false ∷ true ∷ false ∷ false ∷ []
  pub parted : listed 5 (meets (two_delays strike_one)) ≡ false ∷ false ∷ false ∷ false ∷ false ∷ []
  pub parted_lateness : listed 5 (worst (two_delays strike_one)) ≡ 10 ∷ 8 ∷ 4 ∷ 8 ∷ 3 ∷ []
  pub parted_toll : plan_toll (two_delays strike_one) numbers (fares_of by_minutes (two_delays strike_one)) ≡ 580

-- the same of every choice by the bills, with both kinds of toll
pub record YardSheetTold : Type 0 where
  pub formed : well_formed (yard_sheet 40) ≡ true
  pub reserves : listed 5 (reserve (late_yard 40)) ≡ 7 ∷ 5 ∷ 6 ∷ 5 ∷ 5 ∷ []
  -- no report: all on time
  pub quiet : ComesTo by_minutes (yard (yard_sheet 40) deducted on_time no_marks) true (0 ∷ 0 ∷ 0 ∷ 0 ∷ 0 ∷ []) 0
  -- event 0 late by 10: missing costs 300, waiting 270, so the transfer waits
  pub worst_40 : listed 5 (worst (late_yard 40)) ≡ 10 ∷ 8 ∷ 7 ∷ 8 ∷ 6 ∷ []
  pub miss_40 : miss_bill (late_yard 40) numbers (fares_of by_minutes (late_yard 40)) 1 ≡ 300
  pub bill_40 : event_bill by_minutes (late_yard 40) 2 ≡ 270
  pub waiting : ComesTo by_minutes (late_yard 40) true (10 ∷ 8 ∷ 7 ∷ 8 ∷ 6 ∷ []) 430
  -- with 45 parcels waiting costs 300 too, and the transfer goes
  pub bill_45 : event_bill by_minutes (late_yard 45) 2 ≡ 300
  pub going : ComesTo by_minutes (late_yard 45) false (10 ∷ 8 ∷ 0 ∷ 8 ∷ 0 ∷ []) 460
  -- ranked, express minutes count before all ordinary ones, and the transfer goes with 40 parcels already
  pub miss_ranked : miss_bill (late_yard 40) ranked (fares_of by_rank (late_yard 40)) 1 ≡ ranks 0 300
  pub bill_ranked : event_bill by_rank (late_yard 40) 2 ≡ ranks 240 30
  pub going_ranked : ComesTo by_rank (late_yard 40) false (10 ∷ 8 ∷ 0 ∷ 8 ∷ 0 ∷ []) (ranks 0 460)
  -- a second delay, of 4 at event 2: they meet there, and no more once the transfer is struck
  pub meeting : listed 5 (meets (two_delays no_marks)) ≡ false ∷ false ∷ true ∷ false ∷ false ∷ []
  pub parted : listed 5 (meets (two_delays strike_one)) ≡ false ∷ false ∷ false ∷ false ∷ false ∷ []
  pub parted_worst : listed 5 (worst (two_delays strike_one)) ≡ 10 ∷ 8 ∷ 4 ∷ 8 ∷ 3 ∷ []
  pub struck_off : ComesTo by_minutes (two_delays strike_one) false (10 ∷ 8 ∷ 4 ∷ 8 ∷ 3 ∷ []) 580

-- ---- the yard sheet with a last stand

abbrev pub longer_sheet : Tables
longer_sheet = tables 60
    (event 1 10 Arrival 60 ∷ event 1 10 Departure 60 ∷ event 2 10 Departure 60 ∷ event 1 20 Arrival 5 ∷ event 2 30 Arrival 5 ∷ event 2 30 Departure 60 ∷ [])
    (activity Stand 0 1 2 ∷ activity Transfer 0 2 3 ∷ activity Drive 1 3 0 ∷ activity Drive 2 4 1 ∷ activity Stand 4 5 30 ∷ [])
    (lot Ordinary 20 0 2 ∷ lot Ordinary 5 2 3 ∷ lot Express 40 5 1 ∷ [])
    (0 ∷ 2 ∷ 1 ∷ 3 ∷ 4 ∷ 3 ∷ [])

abbrev pub longer_yard : (ℕ → ℕ) → Yard
longer_yard delay = yard longer_sheet deducted delay no_marks

pub record LongerWorked : Type 0 where
  pub formed : well_formed longer_sheet ≡ true
  -- the stand swallows what the drive hands on, so lot 1 ends on time
  pub swallowed : ComesTo by_minutes (longer_yard (late_by 0 10)) true (10 ∷ 8 ∷ 7 ∷ 8 ∷ 6 ∷ 0 ∷ []) 400
  -- a second delay, of 2 at event 5: they meet nowhere, and lot 1 is tangled
  pub apart : listed 6 (meets (longer_yard (both_late (late_by 0 10) (late_by 5 2)))) ≡ false ∷ false ∷ false ∷ false ∷ false ∷ false ∷ []
  pub knot : listed 3 (tangled (longer_yard (both_late (late_by 0 10) (late_by 5 2)))) ≡ false ∷ true ∷ false ∷ []

-- all that was worked by hand
pub record WorkedCases : Type 0 where
  pub rules : WorkedRules
  pub yard_sheet : YardSheetTold
  pub longer : LongerWorked
