-- Cells written one after another, or one stretch after another.
use Rattle.std.proofs.Common.{◌≡◌, ℕ, ◌+◌, ◌<◌, ◌≤◌, List, [], ◌∷◌, ◌++◌, length, get_or, take, drop, set, sym, refl, ap, ◌∙◌, arith, length-append, length-drop}
use Rattle.std.proofs.lemmas.List.{append_assoc, take-append-drop, drop_more, drop-drop, set_at, take_at, drop_at, length-take-le, length_push}
use Rattle.sheet.specs.Laid.{laid}

module _ {A : Type 0} (at : ℕ) where
  pub laid_none : (old : List A) → laid at [] old ≡ old
  laid_none old = take-append-drop at old

  -- what was written ends at `at + length new`
  front : (new old : List A) → at ≤ length old → length (take at old ++ new) ≡ at + length new
  front new old h = length-append (take at old) new ∙ rw (length-take-le at old h)

  pub laid_more : (new old : List A) (x : A) → at + length new < length old → set (laid at new old) (at + length new) x ≡ laid at (new ++ x ∷ []) old
  laid_more new old x h =
      let room : length new < length (drop at old) = rw (length-drop at old) (omega arith) in
      let within : at ≤ length old = omega arith in
      let split = drop_more (drop at old) (length new) x room in
      let left : laid at new old ≡ (take at old ++ new) ++ get_or (drop at old) (length new) x ∷ drop (length new + 1) (drop at old) =
      ap (λ (ys : List A). take at old ++ (new ++ ys)) split ∙ sym (append_assoc (take at old) new _) in
      let right : laid at (new ++ x ∷ []) old ≡ (take at old ++ new) ++ x ∷ drop (length new + 1) (drop at old) =
      rw (length_push new x) (ap (λ (ys : List A). take at old ++ ys) (append_assoc new (x ∷ []) _) ∙ sym (append_assoc (take at old) new _)) in
      ap (λ (ys : List A). set ys (at + length new) x) left
      ∙ set_at (take at old ++ new) _ _ x (at + length new) (front new old within)
      ∙ sym right

  pub length_laid : (new old : List A) → at + length new ≤ length old → length (laid at new old) ≡ length old
  length_laid new old h =
      let within : at ≤ length old = omega arith in
      ap length (sym (append_assoc (take at old) new (drop (length new) (drop at old))))
      ∙ length-append (take at old ++ new) (drop (length new) (drop at old))
      ∙ rw (front new old within, length-drop (length new) (drop at old), length-drop at old) (omega arith)

  -- one stretch and then the next are one long stretch
  pub laid_laid : (new more old : List A) → at + length new ≤ length old → laid (at + length new) more (laid at new old) ≡ laid at (new ++ more) old
  laid_laid new more old h =
      let within : at ≤ length old = omega arith in
      let rest = drop (length new) (drop at old) in
      let joined : laid at new old ≡ (take at old ++ new) ++ rest = sym (append_assoc (take at old) new rest) in
      let t : take (at + length new) (laid at new old) ≡ take at old ++ new =
      ap (take (at + length new)) joined ∙ take_at (take at old ++ new) rest (at + length new) (front new old within) in
      let d : drop (at + length new) (laid at new old) ≡ rest =
      ap (drop (at + length new)) joined ∙ drop_at (take at old ++ new) rest (at + length new) (front new old within) in
      rw (t, d) (append_assoc (take at old) new _
      ∙ ap (λ (ys : List A). take at old ++ ys) (sym (append_assoc new more _) ∙ rw (drop-drop (length more) (length new) (drop at old), length-append new more)))

-- the front of a table holds what was laid there
pub take_laid : {A : Type 0} (new old : List A) → take (length new) (laid 0 new old) ≡ new
take_laid new old = take_at new (drop (length new) old) (length new) refl
