-- What plan, trial and reserve refuse, and what reserves say.
--
--   told             a hindrance as a refusal
--   plan_refusal     a table too short, else what stands in the way of a plan
--   trial_refusal    why a transfer cannot be struck, else what stands in the way of a plan with it struck
--   ReserveIn        a table that holds every event's reserve
--   ReserveLaw       what such a table says: every event is within its tolerance, all unstruck transfers waiting, exactly when every noted
--                    delay is within what is written for its event; and a delay at one event alone is so exactly when it is within that
use Rattle.std.specs.Prelude.{◌≡◌, ℕ, ◌<◌, ◌≤◌, Bool, cond, ◌&&◌, ◌↔◌, List, length, is_ok, Some, None, Option, nat_le, slice_index}
use Rattle.std.specs.Result.{result_err}
use Rattle.sheet.specs.Rules.{Tables}
use Rattle.model.specs.Yard.{Yard, event_count, noted}
use Rattle.model.specs.Laws.{yard, Tolerated, alone}
use Rattle.model.specs.Reserves.{reserve}
use Rattle.timetable.specs.declared.forecast.hindrance.Hindrance.{Hindrance}
use Rattle.timetable.specs.declared.forecast.hindrance.Hindrance.TheVariants as hindrance
use Rattle.timetable.specs.Hindrances.{hindered}
use Rattle.board.specs.declared.refusal.Refusal.{Refusal}
use Rattle.board.specs.declared.refusal.Refusal.TheVariants.{ShortTable, Meeting, Tangle}
use Rattle.board.specs.Ledger.{Ledger, strike_answer}

abbrev pub told : Option Hindrance → Option Refusal
told None = None
told (Some (hindrance.Meeting event)) = Some (Meeting event)
told (Some (hindrance.Tangle lot)) = Some (Tangle lot)

-- so many cells are enough for the sheet's events, so many for its activities
abbrev pub for_events : Tables → ℕ → Bool
for_events t cells = nat_le (length t.events) cells

abbrev pub for_activities : Tables → ℕ → Bool
for_activities t cells = nat_le (length t.activities) cells

-- room in the worst timetable, the column of bills, the lateness and the bytes
abbrev pub plan_room : Tables → ℕ → ℕ → ℕ → ℕ → Bool
plan_room t worst cells late gone = for_events t worst && (for_events t cells && (for_events t late && for_activities t gone))

abbrev pub plan_refusal : Yard → Bool → Option Refusal
plan_refusal g room = cond room (told (hindered g)) (Some ShortTable)

abbrev pub reserve_refusal : Tables → ℕ → Option Refusal
reserve_refusal t cells = cond (for_events t cells) None (Some ShortTable)

abbrev pub ReserveIn : Yard → List ℕ → Type 0
ReserveIn g reserves = (e : ℕ) → e < event_count g → slice_index reserves e ≡ reserve g e

-- one event alone delayed by so much
abbrev pub alone_at : Yard → ℕ → ℕ → Yard
alone_at g event minutes = yard g.sheet g.rule (alone event minutes) g.mark

pub record ReserveLaw (g : Yard) (reserves : List ℕ) : Type 0 where
  pub together : Tolerated g ↔ ((e : ℕ) → e < event_count g → noted g e ≤ slice_index reserves e)
  pub singly : (event minutes : ℕ) → event < event_count g → Tolerated (alone_at g event minutes) ↔ (minutes ≤ slice_index reserves event)

-- room in the worst timetable and the column of bills
abbrev pub trial_room : Tables → ℕ → ℕ → Bool
trial_room t worst cells = for_events t worst && for_events t cells

-- what stands in the way of a trial: why the transfer cannot be struck, then as for a plan with it struck
abbrev pub trial_refusal : Ledger → ℕ → Yard → Bool → Option Refusal
trial_refusal l a struck room = cond (is_ok (strike_answer l a)) (plan_refusal struck room) (result_err (strike_answer l a))
