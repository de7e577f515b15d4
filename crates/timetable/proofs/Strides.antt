-- A lot's steps, handed on by themselves.
use Rattle.std.proofs.Common.{◌≡◌, ℕ, zero, suc, ◌-◌, ◌<◌, Bool, true, ◌||◌, List, [], ◌∷◌, length, get_or, None, sym, refl, ap, ◌∙◌, subst, arith}
use Rattle.std.specs.List.{list_any}
use Rattle.sheet.specs.declared.records.Lot.{Lot}
use Rattle.sheet.specs.Rules.{activity_at, stretch, lot_at, path_keeps}
use Rattle.model.specs.Yard.{Yard, tail, head, struck, transfer}
use Rattle.model.specs.Finite.{some}
use Rattle.model.specs.Lots.{ends, begins, finish, unstruck}
use Rattle.model.proofs.OnSheets.{way_of}
use Rattle.timetable.specs.declared.day.Day.{Day}
use Rattle.timetable.specs.Days.{sheet_on, yard_of}
use Rattle.timetable.specs.Parts.{LotOf, Walks, lots_on}
use Rattle.timetable.proofs.Ways.{below_at}

-- a lot's stretch can be gone along
pub lot_walks : (d : Day) (lot : Lot) → LotOf d lot → (s : List ℕ) → s ≡ stretch lot d.sheet.steps.now → Walks d s
lot_walks d lot o s e =
    let w = way_of (sheet_on d) d.sheet.kept o.number o.within in
    let i : s ≡ stretch (lot_at d.sheet.lots.now o.number) d.sheet.steps.now = e ∙ ap (λ (l : Lot). stretch l d.sheet.steps.now) o.is in
    let n = ap length i in
    record {
      some_steps = omega (arith, n, w.some_steps);
      known = below_at d.sheet.activities.now None s (subst (λ (u : List ℕ). path_keeps d.sheet.activities.now None u ≡ true) (sym i) w.keeps);
    }

-- a way ends at the head of its last step
ends_last : (g : Yard) (e k : ℕ) (s : List ℕ) → length s ≡ suc k → ends g e s ≡ head g (get_or s k 0)
unfolding ends
ends_last g e k [] n = absurd (omega arith)
ends_last g e zero (a ∷ []) n = refl
ends_last g e zero (a ∷ (b ∷ s)) n = absurd (omega arith)
ends_last g e (suc k) (a ∷ []) n = absurd (omega arith)
ends_last g e (suc k) (a ∷ (b ∷ s)) n = ends_last g (head g a) k (b ∷ s) (omega arith)

pub finish_last : (rule : ℕ → ℕ → ℕ) (d : Day) (s : List ℕ) → Walks d s → (activity_at d.sheet.activities.now (get_or s (length s - 1) 0)).head ≡ finish (yard_of rule d) s
unfolding head
finish_last rule d s w = sym (ends_last (yard_of rule d) (begins (yard_of rule d) s) (length s - 1) s (omega (arith, w.some_steps)))

-- `any` answers whether some step passes
pub some_any : (t : ℕ → Bool) (s : List ℕ) → list_any t s ≡ some t s
unfolding some
some_any t [] = refl
some_any t (a ∷ s) = ap (λ (b : Bool). t a || b) (some_any t s)

-- no rule enters a lot's way
module _ (rule : ℕ → ℕ → ℕ) (d : Day) where
  ends_same : (s : List ℕ) (e : ℕ) → ends (lots_on d) e s ≡ ends (yard_of rule d) e s
  unfolding ends head
  ends_same [] e = refl
  ends_same (a ∷ s) e = ends_same s (head (lots_on d) a)

  begins_same : (s : List ℕ) → begins (lots_on d) s ≡ begins (yard_of rule d) s
  unfolding tail
  begins_same [] = refl
  begins_same (a ∷ s) = refl

  pub finish_same : (s : List ℕ) → finish (lots_on d) s ≡ finish (yard_of rule d) s
  finish_same s = ap (λ (e : ℕ). ends (lots_on d) e s) (begins_same s) ∙ ends_same s (begins (yard_of rule d) s)

  pub unstruck_same : (s : List ℕ) → unstruck (lots_on d) s ≡ unstruck (yard_of rule d) s
  unfolding struck transfer
  unstruck_same s = refl

-- steps tested alike
pub some_same : (t u : ℕ → Bool) (s : List ℕ) → ((k : ℕ) → k < length s → t (get_or s k 0) ≡ u (get_or s k 0)) → some t s ≡ some u s
unfolding some
some_same t u [] h = refl
some_same t u (a ∷ s) h =
    ap (λ (b : Bool). b || some t s) (h 0 (omega arith)) ∙ ap (λ (b : Bool). u a || b) (some_same t u s (λ k n. h (suc k) (omega arith)))
