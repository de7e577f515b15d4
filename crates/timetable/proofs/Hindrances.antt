-- What stands in the way of a plan, by what the two searches found; and where nothing does.
use Rattle.std.proofs.Common.{◌≡◌, ℕ, ◌<◌, ◌≤◌, Bool, true, false, ltb, ◌⊎◌, length, is_some, Some, None, Option, sym, refl, ap, ◌∙◌, inl, inr, arith}
use Rattle.std.proofs.lemmas.Bool.{cases_lt, cond-true, lt-ltb, both_ways}
use Rattle.model.specs.Yard.{Yard, event_count}
use Rattle.model.specs.Finite.{first}
use Rattle.model.specs.Meeting.{meets}
use Rattle.model.specs.Lots.{lot_count}
use Rattle.model.specs.Tangles.{tangled}
use Rattle.model.specs.Laws.{Clear}
use Rattle.model.proofs.Meets.{first_lowest}
use Rattle.model.proofs.Tangles.{tangled_decides}
use Rattle.timetable.specs.declared.day.Day.{Day}
use Rattle.timetable.specs.Days.{yard_of}
use Rattle.timetable.specs.Found.{found_first}
use Rattle.timetable.specs.declared.forecast.hindrance.Hindrance.TheVariants.{Meeting}
use Rattle.timetable.specs.Hindrances.{or_tangle, or_else, hindered}

-- a search that finds nothing
found_none : (n : ℕ) (t : ℕ → Bool) → found_first n t ≡ None → (i : ℕ) → i < n → t i ≡ false
found_none n t h i w = go (cases_lt (first n t) n)
  where
    go : (first n t < n) ⊎ (n ≤ first n t) → t i ≡ false
    go (inl x) = absurd (both_ways true (ap is_some (sym (cond-true (ltb (first n t) n) (Some (first n t)) None (lt-ltb (first n t) n x)) ∙ h)) refl)
    go (inr x) = (first_lowest n t).below i (omega (arith, w, x))

neither : (event lot : Option ℕ) → or_else event lot ≡ None → (event ≡ None) × (lot ≡ None)
neither (Some e) lot h = absurd (both_ways true (ap is_some h) refl)
neither None (Some i) h = absurd (both_ways true (ap is_some h) refl)
neither None None h = (refl, refl)

pub clear_of : (g : Yard) → hindered g ≡ None → Clear g
clear_of g h =
    let n = neither (found_first (event_count g) (meets g)) (found_first (lot_count g) (tangled g)) h in
    record {
      no_meeting = found_none (event_count g) (meets g) n.0;
      no_tangle = λ i w k. both_ways (tangled g i) (found_none (lot_count g) (tangled g) n.1 i w) ((tangled_decides g i).1 k);
    }

module _ (rule : ℕ → ℕ → ℕ) (d : Day) where
  pub by_meeting : (event : ℕ) → Some event ≡ found_first (length d.sheet.events.now) (meets (yard_of rule d)) → Some (Meeting event) ≡ hindered (yard_of rule d)
  unfolding event_count lot_count
  by_meeting event m = ap (λ (x : Option ℕ). or_else x (found_first (length d.sheet.lots.now) (tangled (yard_of rule d)))) m

  pub by_tangle : (lot : Option ℕ) → None ≡ found_first (length d.sheet.events.now) (meets (yard_of rule d)) → lot ≡ found_first (length d.sheet.lots.now) (tangled (yard_of rule d)) → or_tangle lot ≡ hindered (yard_of rule d)
  unfolding event_count lot_count
  by_tangle lot m t = ap or_tangle t ∙ ap (λ (x : Option ℕ). or_else x (found_first (length d.sheet.lots.now) (tangled (yard_of rule d)))) m
