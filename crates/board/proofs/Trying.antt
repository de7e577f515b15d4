-- The yard with a transfer on trial is that of the ledger with it struck.
use Rattle.std.proofs.Common.{◌≡◌, ℕ, Bool, true, false, cond, eqb, ◌⊎◌, List, is_ok, None, Some, Option, sym, refl, ap, ◌∙◌, inl, inr}
use mathlib.Core.Path.{fun_ext}
use Rattle.std.proofs.lemmas.Bool.{cases_eq, eq-eqb, ne_eqb, cond-true}
use Rattle.std.specs.Result.{result_err}
use Rattle.sheet.specs.Rules.{Tables}
use Rattle.model.specs.declared.mark.Mark.{Mark}
use Rattle.model.specs.declared.mark.Mark.TheVariants.{Struck}
use Rattle.model.specs.Yard.{Yard}
use Rattle.model.specs.Laws.{yard}
use Rattle.timetable.specs.declared.day.MarkRecord.{MarkRecord}
use Rattle.timetable.specs.Days.{marked, delay_on, mark_on}
use Rattle.board.specs.declared.refusal.Refusal.{Refusal}
use Rattle.board.specs.Ledger.{Ledger, with_mark, step, strike, strike_answer, yard_on}
use Rattle.board.specs.Calls.{plan_refusal, trial_refusal}

same_number : (a k : ℕ) → eqb a k ≡ eqb k a
same_number a k = go (cases_eq a k)
  where
    go : (a ≡ k) ⊎ (a ≡ k → ⊥) → eqb a k ≡ eqb k a
    go (inl e) = eq-eqb a k e ∙ sym (eq-eqb k a (sym e))
    go (inr ne) = ne_eqb a k ne ∙ sym (ne_eqb k a (λ e. ne (sym e)))

as_struck : (b : Bool) (m : Mark) → marked b m ≡ cond b Struck m
as_struck true m = refl
as_struck false m = refl

module _ (t : Tables) (number : ℕ) (delays : List ℕ) (marks : List MarkRecord) (a : ℕ) where
  abbrev before : Ledger
  before = record { sheet = t; number = number; delay = delay_on delays; mark = mark_on marks None }

  tried_marks : mark_on marks (Some a) ≡ (λ k. cond (eqb k a) Struck (mark_on marks None k))
  tried_marks = fun_ext (λ k. as_struck (eqb a k) (mark_on marks None k) ∙ ap (λ (b : Bool). cond b Struck (mark_on marks None k)) (same_number a k))

  pub struck_yard : (rule : ℕ → ℕ → ℕ) → is_ok (strike_answer before a) ≡ true → yard t rule (delay_on delays) (mark_on marks (Some a)) ≡ yard_on rule (step before (strike a))
  struck_yard rule ok =
      ap (λ (f : ℕ → Mark). yard t rule (delay_on delays) f) tried_marks
      ∙ ap (yard_on rule) (sym (cond-true (is_ok (strike_answer before a)) (with_mark before a Struck) before ok))

  pub trial_so : (g h : Yard) (room : Bool) (why : Option Refusal) → is_ok (strike_answer before a) ≡ true → g ≡ h → why ≡ plan_refusal g room → why ≡ trial_refusal before a h room
  trial_so g h room why ok e w =
      w ∙ ap (λ (y : Yard). plan_refusal y room) e ∙ sym (cond-true (is_ok (strike_answer before a)) (plan_refusal h room) (result_err (strike_answer before a)) ok)
