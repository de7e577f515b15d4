-- The tables that a caller lends for a plan.
--
--   work_fits, plan_fits        whether they are long enough for a sheet
--   WorkLeft, PlanLeft          they hold what they held
--   SameWork, SamePlanTables    they are still the caller's own, as long as they were, whatever they now hold
use Rattle.std.specs.Prelude.{◌≡◌, Bool, length}
use Rattle.sheet.specs.Rules.{Tables}
use Rattle.board.specs.declared.tables.Work.{Work}
use Rattle.board.specs.declared.tables.PlanTables.{PlanTables}
use Rattle.board.specs.Calls.{plan_room, trial_room}

abbrev pub work_fits : {X : Type 0} → Tables → Work X → Bool
work_fits t w = trial_room t (length w.worst.now) (length w.bills.now)

abbrev pub plan_fits : {X : Type 0} → Tables → Work X → PlanTables → Bool
plan_fits t w p = plan_room t (length w.worst.now) (length w.bills.now) (length p.late.now) (length p.gone.now)

abbrev pub WorkLeft : {X : Type 0} → Work X → Work X → Type 0
WorkLeft a b = (b.worst.now ≡ a.worst.now) × (b.bills.now ≡ a.bills.now)

abbrev pub PlanLeft : PlanTables → PlanTables → Type 0
PlanLeft a b = (b.late.now ≡ a.late.now) × (b.gone.now ≡ a.gone.now)

pub record SameWork {X : Type 0} (a b : Work X) : Type 0 where
  pub worst : b.worst.ghost_name ≡ a.worst.ghost_name
  pub bills : b.bills.ghost_name ≡ a.bills.ghost_name
  pub worst_long : length b.worst.now ≡ length a.worst.now
  pub bills_long : length b.bills.now ≡ length a.bills.now

pub record SamePlanTables (a b : PlanTables) : Type 0 where
  pub late : b.late.ghost_name ≡ a.late.ghost_name
  pub gone : b.gone.ghost_name ≡ a.gone.ghost_name
  pub late_long : length b.late.now ≡ length a.late.now
  pub gone_long : length b.gone.now ≡ length a.gone.now
