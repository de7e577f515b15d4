-- How what came of a call is told, after the call and its colon.
--
--   with_toll       the text that a toll's text makes, where the tariff says how a toll is told
--   outcome_text    the text of an outcome
--   answer_line     the line of a call and what came of it, with its end
use Rattle.std.specs.Prelude.{ℕ, List, ◌++◌, Some, None, codes, decimal, Option}
use Rattle.board.specs.Refusals.{as_line, not_released}
use Rattle.words.specs.Rows.{numbers_row}
use Rattle.outlook.specs.Lines.{late_line}
use Rattle.board.specs.Ledger.{Call}
use Rattle.keeper.specs.Notes.{call_text}
use Rattle.console.specs.declared.outcome.Outcome.{Outcome}
use Rattle.console.specs.declared.outcome.Outcome.TheVariants.{Done, Slip, Refused, NotReleased, Toll, Plan, Reserves}

abbrev pub with_toll : Option (List ℕ) → (List ℕ → List ℕ) → Option (List ℕ)
with_toll None f = None
with_toll (Some text) f = Some (f text)

abbrev pub outcome_text : {X : Type 0} → (X → Option (List ℕ)) → Outcome X → Option (List ℕ)
outcome_text output Done = Some (codes " done")
outcome_text output (Slip board a) = Some (codes " slip " ++ (decimal board ++ (codes " " ++ decimal a)))
outcome_text output (Refused refusal) = Some (codes " " ++ as_line refusal)
outcome_text output NotReleased = Some (codes " refused " ++ decimal not_released)
outcome_text output (Toll toll) = with_toll (output toll) (λ text. codes " toll " ++ text)
outcome_text output (Plan toll gone late choices) =
    with_toll (output toll)
    (λ text. codes " toll " ++ (text ++ (codes " gone " ++ (decimal gone ++ (codes "\n" ++ (late_line late.now ++ (codes "\nchoices" ++ numbers_row choices.now)))))))
outcome_text output (Reserves reserves) = Some (numbers_row reserves.now)

abbrev pub answer_line : {X : Type 0} → (X → Option (List ℕ)) → Call → Outcome X → Option (List ℕ)
answer_line output call outcome = with_toll (outcome_text output outcome) (λ text. call_text call ++ (codes ":" ++ (text ++ codes "\n")))
