-- A board's delays and marks, cell by cell, as the ledger's functions.
use Rattle.std.proofs.Common.{◌≡◌, ℕ, zero, suc, ◌<◌, ◌≤◌, Bool, true, false, cond, eqb, ◌≢◌, ◌⊎◌, List, length, None, get_or, set, replicate, sym, refl, ap, ◌∙◌, subst, inl, inr, get_or-set_other, get_or-set_same}
use mathlib.Core.Path.{fun_ext}
use Rattle.std.proofs.lemmas.Bool.{cases_eq, eq-eqb, ne_eqb, cond-true, cond-false}
use Rattle.model.specs.declared.mark.Mark.{Mark}
use Rattle.timetable.specs.declared.day.MarkRecord.{MarkRecord}
use Rattle.timetable.specs.Days.{no_mark, delay_on, mark_on}
use Rattle.sheet.specs.declared.sheet.Sheet.{Sheet}
use Rattle.sheet.specs.Sheets.{tables_of}
use Rattle.board.specs.Kept.{Timely}
use Rattle.board.specs.Ledger.{with_mark}

-- one cell is written
pub written_at : {X : Type 0} (l : List X) (i : ℕ) (v d : X) → i < length l → (k : ℕ) → get_or (set l i v) k d ≡ cond (eqb k i) v (get_or l k d)
written_at l i v d h k = go (cases_eq k i)
  where
    go : (k ≡ i) ⊎ (k ≡ i → ⊥) → get_or (set l i v) k d ≡ cond (eqb k i) v (get_or l k d)
    go (inl e) = ap (λ (j : ℕ). get_or (set l i v) j d) e ∙ get_or-set_same l i v d h ∙ sym (cond-true (eqb k i) v (get_or l k d) (eq-eqb k i e))
    go (inr ne) = let o : k ≢ i = ne in get_or-set_other l i k v d o ∙ sym (cond-false (eqb k i) v (get_or l k d) (ne_eqb k i ne))

pub delay_written : (l : List ℕ) (e minutes : ℕ) → e < length l → delay_on (set l e minutes) ≡ (λ k. cond (eqb k e) minutes (delay_on l k))
delay_written l e minutes h = fun_ext (written_at l e minutes 0 h)

mark_of : (b : Bool) (v w : MarkRecord) → (cond b v w).mark ≡ cond b v.mark w.mark
mark_of true v w = refl
mark_of false v w = refl

pub mark_written : (l : List MarkRecord) (a : ℕ) (v : MarkRecord) → a < length l → mark_on (set l a v) None ≡ (λ k. cond (eqb k a) v.mark (mark_on l None k))
mark_written l a v h = fun_ext (λ k. ap (λ (r : MarkRecord). r.mark) (written_at l a v no_mark h k) ∙ mark_of (eqb k a) v (get_or l k no_mark))

-- all cells alike
pub all_alike : {X : Type 0} (n : ℕ) (x : X) (k : ℕ) → get_or (replicate n x) k x ≡ x
all_alike zero x k = refl
all_alike (suc n) x zero = refl
all_alike (suc n) x (suc k) = all_alike n x k

pub timely_set : (period : ℕ) (delays : List ℕ) (i v : ℕ) → v ≤ period → i < length delays → Timely period delays → Timely period (set delays i v)
timely_set period delays i v low h all k = subst (λ (x : ℕ). x ≤ period) (sym (written_at delays i v 0 h k)) (go (eqb k i))
  where
    go : (b : Bool) → cond b v (get_or delays k 0) ≤ period
    go true = low
    go false = all k

-- the ledger after one mark record is changed
pub marked_ledger : (sheet : Sheet) (number : ℕ) (delays : List ℕ) (marks : List MarkRecord) (at a : ℕ) (v : MarkRecord) (m : Mark) → at < length marks → at ≡ a → v.mark ≡ m
    → record { sheet = tables_of sheet; number = number; delay = delay_on delays; mark = mark_on (set marks at v) None }
    ≡ with_mark (record { sheet = tables_of sheet; number = number; delay = delay_on delays; mark = mark_on marks None }) a m
marked_ledger sheet number delays marks at a v m h e w =
    ap (λ (f : ℕ → Mark). record { sheet = tables_of sheet; number = number; delay = delay_on delays; mark = f })
    (mark_written marks at v h ∙ fun_ext (λ k. ap (λ (j : ℕ). cond (eqb k j) v.mark (mark_on marks None k)) e ∙ ap (λ (x : Mark). cond (eqb k a) x (mark_on marks None k)) w))
