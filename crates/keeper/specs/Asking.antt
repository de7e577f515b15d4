-- What asking for reserves answers.
--
--   ReservesTold     with a leave: refused as a short table is; else every event's reserve, with its law; where refused, nothing written
--   ReservesAsked    that, or with no leave no answer and nothing written
use Rattle.std.specs.Prelude.{◌≡◌, ℕ, List, length, OnOk, IfErr, Some, None, Option, Result}
use Rattle.std.specs.Result.{result_err}
use Rattle.model.specs.Yard.{Yard}
use Rattle.board.specs.declared.refusal.Refusal.{Refusal}
use Rattle.board.specs.Calls.{reserve_refusal, ReserveIn, ReserveLaw}

pub record ReservesTold (g : Yard) (before after : List ℕ) (answer : Result (Unit {0}) Refusal) : Type 0 where
  pub refuses : result_err answer ≡ reserve_refusal g.sheet (length before)
  pub cells : OnOk answer (ReserveIn g after)
  pub law : OnOk answer (ReserveLaw g after)
  pub untouched : IfErr answer (λ why. after ≡ before)

abbrev pub ReservesAsked : Yard → (before after : List ℕ) → Option (Result (Unit {0}) Refusal) → Type 0
ReservesAsked g before after None = after ≡ before
ReservesAsked g before after (Some answer) = ReservesTold g before after answer
