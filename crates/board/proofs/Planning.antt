-- What plan and reserve refuse, and what the day of a board says of the board.
use Rattle.std.proofs.Common.{◌≡◌, ℕ, ◌≤◌, Bool, true, List, length, Some, None, Option, Ok, Err, Result, sym, ap, ◌∙◌, subst, arith}
use Rattle.std.proofs.lemmas.Bool.{and_parts, leb-true, cond-true}
use Rattle.std.specs.Result.{result_err, IsErrAnd}
use Rattle.sheet.specs.Rules.{Tables, well_formed}
use Rattle.carry.specs.Laws.{LawfulRule}
use Rattle.model.specs.declared.mark.Mark.{Mark}
use Rattle.model.specs.Yard.{Yard, noted}
use Rattle.model.specs.Laws.{yard}
use Rattle.model.proofs.Stands.{within_reserves, reserve_alone}
use Rattle.timetable.specs.declared.forecast.hindrance.Hindrance.{Hindrance}
use Rattle.timetable.specs.declared.forecast.hindrance.Hindrance.TheVariants as hindrance
use Rattle.timetable.specs.Hindrances.{hindered}
use Rattle.board.specs.declared.refusal.Refusal.{Refusal}
use Rattle.board.specs.declared.refusal.Refusal.TheVariants.{ShortTable}
use Rattle.board.specs.Refusals.{number_of}
use Rattle.board.specs.Calls.{told, for_events, for_activities, plan_room, plan_refusal, ReserveIn, ReserveLaw}

-- room in each of the tables
pub record Roomy (t : Tables) (w c l g : ℕ) : Type 0 where
  pub worst : length t.events ≤ w
  pub cells : length t.events ≤ c
  pub late : length t.events ≤ l
  pub gone : length t.activities ≤ g

pub roomy : (t : Tables) (worst cells late gone : ℕ) → plan_room t worst cells late gone ≡ true → Roomy t worst cells late gone
roomy t worst cells late gone h =
    let a = and_parts (for_events t worst) _ h in
    let b = and_parts (for_events t cells) _ a.1 in
    let c = and_parts (for_events t late) (for_activities t gone) b.1 in
    record { worst = leb-true _ worst a.0; cells = leb-true _ cells b.0; late = leb-true _ late c.0; gone = leb-true _ gone c.1 }

pub refusal_so : (day g : Yard) (room : Bool) (h : Option Hindrance) → room ≡ true → day ≡ g → h ≡ hindered day → told h ≡ plan_refusal g room
refusal_so day g room h r y e = ap told (e ∙ ap hindered y) ∙ sym (cond-true room (told (hindered g)) (Some ShortTable) r)

-- what stands in the way is never a short table
number_in : Option Refusal → ℕ
number_in (Some r) = number_of r
number_in None = 0

pub never_short : (h : Hindrance) (r : Refusal) → Some r ≡ told (Some h) → r ≡ ShortTable → ⊥
unfolding number_in
never_short (hindrance.Meeting e) r t s = let a = ap number_in t in let b = ap number_of s in omega arith
never_short (hindrance.Tangle i) r t s = let a = ap number_in t in let b = ap number_of s in omega arith

-- what a table with the reserves says
pub law_so : (t : Tables) (rule : ℕ → ℕ → ℕ) (delay : ℕ → ℕ) (mark : ℕ → Mark) (reserves : List ℕ) → well_formed t ≡ true → LawfulRule rule → ReserveIn (yard t rule delay mark) reserves → ReserveLaw (yard t rule delay mark) reserves
law_so t rule delay mark reserves formed lawful cells =
    let g = yard t rule delay mark in
    let w = within_reserves rule lawful t delay mark formed in
    record {
      together = (λ h e k. subst (λ (n : ℕ). noted g e ≤ n) (sym (cells e k)) (w.0 h e k), λ h. w.1 (λ e k. subst (λ (n : ℕ). noted g e ≤ n) (cells e k) (h e k)));
      singly = λ event minutes k.
          let s = reserve_alone rule lawful t delay mark formed event minutes k in
          (λ h. subst (λ (n : ℕ). minutes ≤ n) (sym (cells event k)) (s.0 h), λ h. s.1 (subst (λ (n : ℕ). minutes ≤ n) (cells event k) h));
    }

-- a refusal that tells what stands in the way
pub told_by : {X : Type 0} (r : Result X Refusal) (h : Hindrance) → IsErrAnd r (λ e. Some e ≡ told (Some h)) → result_err r ≡ told (Some h)
told_by (Ok x) h p = absurd p
told_by (Err e) h p = p
