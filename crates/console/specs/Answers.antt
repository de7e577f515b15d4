-- What an answer is told as.
--
--   outcome_done    what came of a call that is done or refused
--   outcome_of      what came of a call, by its answer and what the tables then hold
--   slips_in        the slips of an answer
use Rattle.std.specs.Prelude.{List, [], ◌∷◌, Ok, Err, Result}
use Rattle.board.specs.declared.refusal.Refusal.{Refusal}
use Rattle.board.specs.declared.slip.Slip.{Slip}
use Rattle.keeper.specs.declared.order.Answer.{Answer}
use Rattle.keeper.specs.declared.order.Answer.TheVariants as answer
use Rattle.keeper.specs.declared.tend.Shown.{Shown}
use Rattle.console.specs.declared.outcome.Outcome.{Outcome}
use Rattle.console.specs.declared.outcome.Outcome.TheVariants as outcome

abbrev pub outcome_done : {X : Type 0} → Result (Unit {0}) Refusal → Outcome X
outcome_done (Ok x) = outcome.Done
outcome_done (Err refusal) = outcome.Refused refusal

abbrev pub outcome_of : {X : Type 0} → Answer X → Shown → Outcome X
outcome_of (answer.Reported event minutes r) shown = outcome_done r
outcome_of (answer.Held a (Ok slip)) shown = outcome.Slip slip.board slip.activity
outcome_of (answer.Held a (Err refusal)) shown = outcome.Refused refusal
outcome_of (answer.Released board a (Ok x)) shown = outcome.Done
outcome_of (answer.Released board a (Err n)) shown = outcome.NotReleased
outcome_of (answer.Struck a r) shown = outcome_done r
outcome_of (answer.Cleared a r) shown = outcome_done r
outcome_of (answer.Tried a (Ok toll)) shown = outcome.Toll toll
outcome_of (answer.Tried a (Err refusal)) shown = outcome.Refused refusal
outcome_of (answer.Planned (Ok plan)) shown = outcome.Plan plan.0 plan.1 shown.late shown.gone
outcome_of (answer.Planned (Err refusal)) shown = outcome.Refused refusal
outcome_of (answer.Reserved (Ok x)) shown = outcome.Reserves shown.reserves
outcome_of (answer.Reserved (Err refusal)) shown = outcome.Refused refusal

abbrev pub slips_in : {X : Type 0} → Answer X → List Slip
slips_in (answer.Held a (Ok slip)) = slip ∷ []
slips_in (answer.Held a (Err refusal)) = []
slips_in (answer.Released board a (Ok x)) = []
slips_in (answer.Released board a (Err n)) = n.slip ∷ []
slips_in (answer.Reported event minutes r) = []
slips_in (answer.Struck a r) = []
slips_in (answer.Cleared a r) = []
slips_in (answer.Tried a r) = []
slips_in (answer.Planned r) = []
slips_in (answer.Reserved r) = []
