-- Whether an activity waits, by how it stands.
use Rattle.std.proofs.Common.{◌≡◌, ℕ, ◌<◌, Bool, true, false, ◌&&◌, List, length, get_or, sym, ap, ◌∙◌, arith}
use Rattle.sheet.specs.Rules.{activity_at}
use Rattle.tariff.specs.Prices.{Prices}
use Rattle.model.specs.Yard.{head, unmarked}
use Rattle.model.specs.Laws.{event_bill}
use Rattle.model.specs.Lateness.{Choice, binds}
use Rattle.timetable.specs.declared.day.Day.{Day}
use Rattle.timetable.specs.declared.day.stance.Stance.{Stance}
use Rattle.timetable.specs.Days.{yard_of, stance_at}
use Rattle.timetable.proofs.Stances.{binding, binds_by, decided, unmarked_by, leads}
use Rattle.bills.specs.Columns.{over_transfer, Billed}
use Rattle.choice.specs.Chosen.{cheap}

module _ (rule : ℕ → ℕ → ℕ) (d : Day) (a : ℕ) (s : Stance) (is : s ≡ stance_at d.sheet.activities.now d.marks.now d.trial a) where
  pub waits_so : (z : Choice) → binding s (z a) ≡ binds (yard_of rule d) z a
  waits_so z = sym (binds_by rule d z a ∙ ap (λ (x : Stance). binding x (z a)) (sym is))

  -- a test of the unmarked transfers alone
  pub open_test : (b : Bool) → decided s ≡ true → b ≡ (unmarked (yard_of rule d) a && b)
  open_test b o = sym (ap (λ (x : Bool). x && b) (unmarked_by rule d a ∙ sym (ap decided is) ∙ o))

  pub shut_test : (b : Bool) → decided s ≡ false → false ≡ (unmarked (yard_of rule d) a && b)
  shut_test b o = sym (ap (λ (x : Bool). x && b) (unmarked_by rule d a ∙ sym (ap decided is) ∙ o))

-- whether missing is cheap, by what was found
pub cheap_so : {A : Type 0} (rule : ℕ → ℕ → ℕ) (p : Prices A) (d : Day) (cells : List A) (a to : ℕ) (miss wait : A) → a < length d.sheet.activities.now → Billed p rule d cells
    → to ≡ (activity_at d.sheet.activities.now a).head → miss ≡ over_transfer p (yard_of rule d) a → wait ≡ get_or cells to p.tolls.nought
    → p.tolls.at_most miss wait ≡ cheap p (yard_of rule d) a
unfolding head
cheap_so {A} rule p d cells a to miss wait h b t m w =
    let within : to < length d.sheet.events.now = omega (arith, leads d a h, t) in
    ap (λ (x : A). p.tolls.at_most x wait) m
    ∙ ap (p.tolls.at_most (over_transfer p (yard_of rule d) a)) (w ∙ b.holds to (omega arith) within ∙ ap (event_bill p (yard_of rule d)) t)
