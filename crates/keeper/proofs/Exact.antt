-- A plan is refused exactly where something stands in its way.
use Rattle.std.proofs.Common.{◌≡◌, ℕ, ◌<◌, ◌≤◌, Bool, true, false, ltb, ◌⊎◌, ◌↔◌, is_some, is_err, IfOk, Some, None, Ok, Err, Option, Result, sym, refl, ap, ◌∙◌, inl, inr}
use Rattle.std.proofs.lemmas.Bool.{cases_lt, cond-true, cond-false, le-ltb, both_ways}
use Rattle.std.specs.Result.{result_err}
use Rattle.model.specs.Yard.{Yard, event_count}
use Rattle.model.specs.Finite.{first}
use Rattle.model.specs.Meeting.{meets}
use Rattle.model.specs.Lots.{lot_count}
use Rattle.model.specs.Tangles.{tangled}
use Rattle.model.proofs.Meets.{first_lowest}
use Rattle.model.proofs.Tangles.{tangled_decides}
use Rattle.timetable.specs.Found.{found_first}
use Rattle.timetable.specs.declared.forecast.hindrance.Hindrance.{Hindrance}
use Rattle.timetable.specs.declared.forecast.hindrance.Hindrance.TheVariants as hindrance
use Rattle.timetable.specs.Hindrances.{or_else, hindered}
use Rattle.timetable.proofs.Hindrances.{clear_of}
use Rattle.board.specs.declared.refusal.Refusal.{Refusal}
use Rattle.board.specs.declared.refusal.Refusal.TheVariants.{ShortTable}
use Rattle.sheet.specs.Rules.{Tables}
use Rattle.board.specs.Calls.{told, for_events, plan_refusal, reserve_refusal}
use Rattle.keeper.specs.Law.{Hindered}

-- a search that finds something
found : (n : ℕ) (t : ℕ → Bool) → is_some (found_first n t) ≡ true → (k : ℕ) × ((k < n) × (t k ≡ true))
found n t h = go (cases_lt (first n t) n)
  where
    go : (first n t < n) ⊎ (n ≤ first n t) → (k : ℕ) × ((k < n) × (t k ≡ true))
    go (inl w) = (first n t, (w, (first_lowest n t).passes w))
    go (inr w) = absurd (both_ways (is_some (found_first n t)) (ap is_some (cond-false (ltb (first n t) n) (Some (first n t)) None (le-ltb (first n t) n w))) h)

either : (event lot : Option ℕ) → is_some (or_else event lot) ≡ true → (is_some event ≡ true) ⊎ (is_some lot ≡ true)
either (Some e) lot h = inl refl
either None (Some i) h = inr refl
either None None h = absurd (both_ways false refl h)

some_told : (h : Option Hindrance) → is_some (told h) ≡ is_some h
some_told None = refl
some_told (Some (hindrance.Meeting e)) = refl
some_told (Some (hindrance.Tangle i)) = refl

-- something stands in the way where the searches find it
stands : (g : Yard) → is_some (hindered g) ≡ true → Hindered g
stands g h = go (either (found_first (event_count g) (meets g)) (found_first (lot_count g) (tangled g)) h)
  where
    go : (is_some (found_first (event_count g) (meets g)) ≡ true) ⊎ (is_some (found_first (lot_count g) (tangled g)) ≡ true) → Hindered g
    go (inl e) = inl (found (event_count g) (meets g) e)
    go (inr i) = let f = found (lot_count g) (tangled g) i in inr (f.0, (f.1.0, (tangled_decides g f.0).0 f.1.1))

is_none : (h : Option Hindrance) → is_some h ≡ false → h ≡ None
is_none None e = refl
is_none (Some x) e = absurd (both_ways true e refl)

found_then : (g : Yard) → Hindered g → is_some (hindered g) ≡ true
found_then g s = go (is_some (hindered g)) refl
  where
    never : hindered g ≡ None → Hindered g → ⊥
    never n (inl e) = both_ways (meets g e.0) ((clear_of g n).no_meeting e.0 e.1.0) e.1.1
    never n (inr i) = (clear_of g n).no_tangle i.0 i.1.0 i.1.1

    go : (b : Bool) → is_some (hindered g) ≡ b → is_some (hindered g) ≡ true
    go true e = e
    go false e = absurd (never (is_none (hindered g) e) s)

err_some : {X : Type 0} (r : Result X Refusal) → is_err r ≡ is_some (result_err r)
err_some (Ok x) = refl
err_some (Err e) = refl

pub exactly_so : {X : Type 0} (g : Yard) (room : Bool) (r : Result X Refusal) → result_err r ≡ plan_refusal g room → room ≡ true → (is_err r ≡ true) ↔ Hindered g
exactly_so g room r e w =
    let s : is_err r ≡ is_some (hindered g) = err_some r ∙ ap is_some (e ∙ cond-true room (told (hindered g)) _ w) ∙ some_told (hindered g) in
    (λ h. stands g (sym s ∙ h), λ h. s ∙ found_then g h)

-- what an answer brings that is not refused
pub law_made : {X : Type 0} (r : Result X Refusal) (P : Type 0) → result_err r ≡ None → IfOk r (λ _. P) → P
law_made (Ok x) P e m = m
law_made (Err x) P e m = absurd (both_ways true (ap is_some e) refl)

pub roomy_reserve : (t : Tables) (n : ℕ) → for_events t n ≡ true → reserve_refusal t n ≡ None
roomy_reserve t n h = cond-true (for_events t n) None (Some ShortTable) h
