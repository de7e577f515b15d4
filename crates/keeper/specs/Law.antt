-- The keeper law.
--
--   held_count    how many transfers are held
--   holds_taken, releases_taken    how many holds and releases of a list of calls are accepted
--   Hindered      delays meet at an event, or a lot is tangled
--   Ran           the calls that a run performed
--   KeeperLaw     what holds of a board after a list of calls, of the plan that it then answers, and of the reserves that it then writes
use Rattle.std.specs.Prelude.{◌≡◌, ℕ, ◌+◌, ◌<◌, Bool, true, cond, ◌⊎◌, ◌↔◌, List, [], ◌∷◌, ◌++◌, length, is_ok, is_err, IfOk, Result}
use Rattle.std.specs.Result.{result_err}
use Rattle.sheet.specs.Rules.{Tables}
use Rattle.tariff.specs.Prices.{Prices}
use Rattle.model.specs.Yard.{Yard, event_count}
use Rattle.model.specs.Finite.{count}
use Rattle.model.specs.Meeting.{meets}
use Rattle.model.specs.Lots.{lot_count}
use Rattle.model.specs.Tangles.{TangledLot}
use Rattle.planner.specs.Plans.{PlanIn}
use Rattle.board.specs.declared.refusal.Refusal.{Refusal}
use Rattle.board.specs.Ledger.{Ledger, Call, report, hold, release, strike, clear, plan, reserve, trial, opened, step, steps, hold_answer, holds, is_held, yard_on}
use Rattle.board.specs.Calls.{for_events, plan_refusal, ReserveLaw}
use Rattle.keeper.specs.Orders.{TablesIn, room_in}

abbrev pub held_count : Ledger → ℕ
held_count l = count (length l.sheet.activities) (λ a. is_held (l.mark a))

-- 1 for an accepted hold, or an accepted release
abbrev pub hold_taken : Ledger → Call → ℕ
hold_taken l (hold a) = cond (is_ok (hold_answer l a)) 1 0
hold_taken l (report e minutes) = 0
hold_taken l (release board a) = 0
hold_taken l (strike a) = 0
hold_taken l (clear a) = 0
hold_taken l (trial a) = 0
hold_taken l plan = 0
hold_taken l reserve = 0

abbrev pub release_taken : Ledger → Call → ℕ
release_taken l (release board a) = cond (holds l board a) 1 0
release_taken l (report e minutes) = 0
release_taken l (hold a) = 0
release_taken l (strike a) = 0
release_taken l (clear a) = 0
release_taken l (trial a) = 0
release_taken l plan = 0
release_taken l reserve = 0

unfoldable pub holds_taken : Ledger → List Call → ℕ
holds_taken l [] = 0
holds_taken l (c ∷ calls) = hold_taken l c + holds_taken (step l c) calls

unfoldable pub releases_taken : Ledger → List Call → ℕ
releases_taken l [] = 0
releases_taken l (c ∷ calls) = release_taken l c + releases_taken (step l c) calls

abbrev pub Hindered : Yard → Type 0
Hindered g = ((e : ℕ) × ((e < event_count g) × (meets g e ≡ true))) ⊎ ((i : ℕ) × ((i < lot_count g) × TangledLot g i))

-- these calls were performed, one after another, and logged: so many, or fewer and then the keeper had enough
pub record Ran (before after : List Call) (turns : ℕ) (done : Type 0) (calls : List Call) : Type 0 where
  pub logged : after ≡ before ++ calls
  pub ended : (length calls ≡ turns) ⊎ ((length calls < turns) × done)

-- l is the board's ledger after the calls, `answer` what plan then answers, and w the tables
pub record KeeperLaw {A : Type 0} (p : Prices A) (rule : ℕ → ℕ → ℕ) (measured : Bool) (t : Tables) (number : ℕ) (calls : List Call) (l : Ledger) (answer : Result (A × ℕ) Refusal) (w : TablesIn) : Type 0 where
  -- the board's delays and marks are those that the calls' arguments give
  pub ledger : l ≡ steps (opened t number) calls
  -- slips out, the accepted holds less the accepted releases, are as many as held transfers
  pub slips : holds_taken (opened t number) calls ≡ held_count l + releases_taken (opened t number) calls
  -- where plan answers, its lateness is least for its choices, its toll is theirs, and no rival's is lower
  pub optimum : IfOk answer (λ plan. PlanIn p (yard_on rule l) w.late w.gone plan.0 plan.1)
  -- with room enough it refuses exactly where delays meet or a lot is tangled, and names the lowest
  pub exactly : room_in l w ≡ true → (is_err answer ≡ true) ↔ Hindered (yard_on rule l)
  pub named : result_err answer ≡ plan_refusal (yard_on rule l) (room_in l w)
  -- under a measured rule, with room enough, the reserves tell exactly which delays every event can bear
  pub bearing : measured ≡ true → for_events l.sheet w.reserves_room ≡ true → ReserveLaw (yard_on rule l) w.reserves
