-- A lot's way, one step after another.
use Rattle.std.proofs.Common.{◌≡◌, ℕ, zero, suc, ◌+◌, ◌<◌, ◌≤◌, Bool, true, false, not, ◌&&◌, ◌||◌, ltb, List, [], ◌∷◌, length, get_or, drop, Option, sym, refl, ap, ◌∙◌, add-one, arith, drop_of_length-le}
use Rattle.std.proofs.lemmas.Bool.{and_parts, ltb-true}
use Rattle.sheet.specs.declared.records.Activity.{Activity}
use Rattle.sheet.specs.Rules.{activity_at, stretch, lot_at, path_keeps, step_keeps, come_to}
use Rattle.model.specs.Yard.{Yard, transfer, is_transfer}
use Rattle.model.specs.Meeting.{live}
use Rattle.model.specs.Tangles.{hot, scan, tangled}
use Rattle.timetable.specs.declared.day.Day.{Day}
use Rattle.timetable.specs.Days.{yard_of}
use Rattle.timetable.specs.Parts.{knotted, tangled_by_steps}
use Rattle.model.specs.Lots.{path}
use denote.Enum.Bare.{sameb}
use Rattle.sheet.specs.contracts.records.Kind.{the_type}
use Rattle.sheet.specs.declared.records.Kind.{Kind}
use Rattle.sheet.specs.declared.records.Kind.TheVariants.{Drive, Stand, Transfer}

-- what is left of a way is its next step and the rest
next_left : (s : List ℕ) (k : ℕ) → k < length s → drop k s ≡ get_or s k 0 ∷ drop (suc k) s
next_left [] k h = absurd (omega arith)
next_left (x ∷ s) zero h = refl
next_left (x ∷ s) (suc k) h = next_left s k (omega arith)

pub left : (s : List ℕ) (k : ℕ) → k < length s → drop k s ≡ get_or s k 0 ∷ drop (k + 1) s
left s k h = next_left s k h ∙ ap (λ (j : ℕ). get_or s k 0 ∷ drop j s) (sym (add-one k))

-- the steps of a way are activities of the sheet
pub below_at : (activities : List Activity) (from : Option ℕ) (s : List ℕ) → path_keeps activities from s ≡ true → (k : ℕ) → k < length s → get_or s k 0 < length activities
below_at activities from [] h k n = absurd (omega arith)
below_at activities from (a ∷ s) h zero n =
    let x = and_parts (step_keeps activities from a) _ h in
    let y = and_parts (ltb a (length activities)) _ x.0 in
    ltb-true a (length activities) y.0
below_at activities from (a ∷ s) h (suc k) n = let x = and_parts (step_keeps activities from a) _ h in below_at activities (come_to activities a) s x.1 k (omega arith)

-- the scan for a tangle: what was passed, and the rest of the way, decide what the whole way does
abbrev pub Scanned : Yard → Bool → Bool → Bool → Bool → List ℕ → List ℕ → Type 0
Scanned g late seen gap again rest all = scan (hot g) (live g) late seen gap again rest ≡ scan (hot g) (live g) late false false false all

pub scan_on : (g : Yard) (late : Bool) (s : List ℕ) (k : ℕ) (seen gap again on warm seen' gap' again' : Bool) → k < length s → on ≡ live g (get_or s k 0) → warm ≡ hot g (get_or s k 0)
    → seen' ≡ (seen || warm) → gap' ≡ (gap || (seen && not on)) → again' ≡ (again || (gap && warm)) → Scanned g late seen gap again (drop k s) s → Scanned g late seen' gap' again' (drop (k + 1) s) s
unfolding scan
scan_on g late s k seen gap again on warm seen' gap' again' h o w x y z p =
    rw (x, y, z, o, w) (sym (ap (scan (hot g) (live g) late seen gap again) (left s k h)) ∙ p)

pub scan_done : (g : Yard) (late : Bool) (s : List ℕ) (k : ℕ) (seen gap again : Bool) → length s ≤ k → Scanned g late seen gap again (drop k s) s
    → (again || (gap && late)) ≡ scan (hot g) (live g) late false false false s
unfolding scan
scan_done g late s k seen gap again h p = sym (ap (scan (hot g) (live g) late seen gap again) (drop_of_length-le s h)) ∙ p

-- a hot step is a live transfer
pub hot_live : (rule : ℕ → ℕ → ℕ) (d : Day) (a : ℕ) (t : Bool) → live (yard_of rule d) a ≡ true → t ≡ is_transfer (activity_at d.sheet.activities.now a).kind → t ≡ hot (yard_of rule d) a
unfolding transfer
hot_live rule d a t l e = e ∙ sym (ap (λ (b : Bool). b && is_transfer (activity_at d.sheet.activities.now a).kind) l)

pub hot_not : (g : Yard) (a : ℕ) → live g a ≡ false → false ≡ hot g a
hot_not g a l = sym (ap (λ (b : Bool). b && transfer g a) l)

-- a lot is tangled where its steps are
pub tangled_at : (g : Yard) (i : ℕ) → tangled g i ≡ knotted g (stretch (lot_at g.sheet.lots i) g.sheet.steps)
unfolding path
tangled_at g i = tangled_by_steps g i

-- a kind that was found to be a transfer, or not
pub same_kind : (k : Kind) → sameb the_type k Transfer ≡ is_transfer k
same_kind Drive = refl
same_kind Stand = refl
same_kind Transfer = refl
