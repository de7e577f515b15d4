-- Orders and answers as calls of the ledger.
--
--   call_by     the call that an order asks for, by the two numbers of what a release is given
--   call_of     the call that an order with slips asks for
--   answered    the call that an answer answers; a release that was refused is told by the slip that comes back
--   wrote_plan, wrote_reserves    whether the tables of a plan, or of reserves, were written
--   Answers     an answer is the one that the ledger gives, with what was written into the tables
use Rattle.std.specs.Prelude.{◌≡◌, ℕ, Bool, false, List, length, Ok, Err, is_ok, IfOk, OnOk}
use Rattle.std.specs.Result.{result_err}
use Rattle.tariff.specs.Prices.{Prices}
use Rattle.planner.specs.Plans.{PlanIn, TollOfPlan}
use Rattle.board.specs.Calls.{plan_room, plan_refusal, trial_room, trial_refusal, reserve_refusal, ReserveIn}
use Rattle.board.specs.Ledger.{Ledger, Call, report, hold, release, strike, clear, trial, plan, reserve, step, yard_on, report_answer, hold_answer, release_answer, strike_answer, clear_answer}
use Rattle.board.specs.declared.slip.Slip.{Slip}
use Rattle.keeper.specs.declared.order.Order.{Order}
use Rattle.keeper.specs.declared.order.Order.TheVariants as order
use Rattle.keeper.specs.declared.order.Answer.{Answer}
use Rattle.keeper.specs.declared.order.Answer.TheVariants.{Reported, Held, Released, Struck, Cleared, Tried, Planned, Reserved}

-- by what an order's slip has
abbrev pub call_by : {S A : Type 0} → (board activity : S → ℕ) → Order S A → Call
call_by board activity (order.Report event minutes) = report event minutes
call_by board activity (order.Hold a) = hold a
call_by board activity (order.Release slip) = release (board slip) (activity slip)
call_by board activity (order.Strike a) = strike a
call_by board activity (order.Clear a) = clear a
call_by board activity (order.Trial a) = trial a
call_by board activity order.Plan = plan
call_by board activity (order.Reserve ask) = reserve

abbrev pub call_of : {A : Type 0} → Order Slip A → Call
call_of o = call_by (λ (s : Slip). s.board) (λ (s : Slip). s.activity) o

abbrev pub answered : {X : Type 0} → Answer X → Call
answered (Reported event minutes r) = report event minutes
answered (Held a r) = hold a
answered (Released board a (Ok x)) = release board a
answered (Released board a (Err n)) = release n.slip.board n.slip.activity
answered (Struck a r) = strike a
answered (Cleared a r) = clear a
answered (Tried a r) = trial a
answered (Planned r) = plan
answered (Reserved r) = reserve

-- the tables' lengths and what they hold afterwards
pub record TablesIn : Type 0 where
  pub worst_room : ℕ
  pub cells_room : ℕ
  pub late_room : ℕ
  pub gone_room : ℕ
  pub reserves_room : ℕ
  pub late : List ℕ
  pub gone : List ℕ
  pub reserves : List ℕ

-- by what the tables hold before and after
abbrev pub tables_in : {X : Type 0} → List ℕ → List X → List ℕ → List ℕ → List ℕ → List ℕ → List ℕ → List ℕ → TablesIn
tables_in worst cells late gone reserves late_after gone_after reserves_after = record {
  worst_room = length worst;
  cells_room = length cells;
  late_room = length late;
  gone_room = length gone;
  reserves_room = length reserves;
  late = late_after;
  gone = gone_after;
  reserves = reserves_after;
}

abbrev pub room_in : Ledger → TablesIn → Bool
room_in l w = plan_room l.sheet w.worst_room w.cells_room w.late_room w.gone_room

abbrev pub Answers : {X : Type 0} → Prices X → (ℕ → ℕ → ℕ) → Ledger → TablesIn → Answer X → Type 0
Answers p rule l w (Reported event minutes r) = r ≡ report_answer l event minutes
Answers p rule l w (Held a r) = r ≡ hold_answer l a
Answers p rule l w (Released board a r) = r ≡ release_answer l (record { board = board; activity = a })
Answers p rule l w (Struck a r) = r ≡ strike_answer l a
Answers p rule l w (Cleared a r) = r ≡ clear_answer l a
Answers p rule l w (Tried a r) =
    (result_err r ≡ trial_refusal l a (yard_on rule (step l (strike a))) (trial_room l.sheet w.worst_room w.cells_room))
    × IfOk r (λ toll. TollOfPlan p (yard_on rule (step l (strike a))) toll)
Answers p rule l w (Planned r) =
    (result_err r ≡ plan_refusal (yard_on rule l) (room_in l w))
    × IfOk r (λ plan. PlanIn p (yard_on rule l) w.late w.gone plan.0 plan.1)
Answers p rule l w (Reserved r) = (result_err r ≡ reserve_refusal l.sheet w.reserves_room) × OnOk r (ReserveIn (yard_on rule l) w.reserves)

-- an answer that wrote a plan, or reserves; any other leaves these tables
abbrev pub wrote_plan : {X : Type 0} → Answer X → Bool
wrote_plan (Planned r) = is_ok r
wrote_plan (Reported event minutes r) = false
wrote_plan (Held a r) = false
wrote_plan (Released board a r) = false
wrote_plan (Struck a r) = false
wrote_plan (Cleared a r) = false
wrote_plan (Tried a r) = false
wrote_plan (Reserved r) = false

abbrev pub wrote_reserves : {X : Type 0} → Answer X → Bool
wrote_reserves (Reserved r) = is_ok r
wrote_reserves (Reported event minutes r) = false
wrote_reserves (Held a r) = false
wrote_reserves (Released board a r) = false
wrote_reserves (Struck a r) = false
wrote_reserves (Cleared a r) = false
wrote_reserves (Tried a r) = false
wrote_reserves (Planned r) = false
