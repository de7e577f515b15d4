-- There is exactly one least lawful lateness for each choice.
use Rattle.std.proofs.Common.{◌≡◌, ℕ, ◌<◌, ◌≤◌, max, true, ap, arith}
use Rattle.std.proofs.lemmas.Bool.Decides.{nat_tests}
use Rattle.model.specs.Yard.{Yard, activity_count, tail, head, handed, noted}
use Rattle.model.specs.Finite.{top}
use Rattle.model.specs.Lateness.{Choice, binds, Lawful, Least, brings, least_step, least}
use Rattle.model.proofs.Ground.{Sound, own_all}
use Rattle.model.proofs.Tops.{top_le, le_top, top_same, by_below}
use Rattle.model.proofs.Turns.{turns_is}

-- what a brings is the same where the lateness of its tail is
pub brings_same : (g : Yard) (z : Choice) (y x : ℕ → ℕ) (e a : ℕ) → (head g a ≡ e → y (tail g a) ≡ x (tail g a)) → brings g z y e a ≡ brings g z x e a
brings_same g z y x e a h = grind (arith, nat_tests)

module _ (g : Yard) (s : Sound g) (z : Choice) where
  -- an event's lateness hangs on that of lower events only
  near : (f h : ℕ → ℕ) (e : ℕ) → ((i : ℕ) → i < e → f i ≡ h i) → least_step g z f e ≡ least_step g z h e
  near f h e same =
      ap (max (noted g e)) (top_same (activity_count g) _ _ (λ a w. brings_same g z f h e a (λ q. let b = s.before a w in same (tail g a) (omega arith))))

  pub least_is : (e : ℕ) → least g z e ≡ max (noted g e) (top (activity_count g) (brings g z (least g z) e))
  unfolding least
  least_is e = turns_is 0 (least_step g z) (λ i. i) near e

  -- what a binding activity brings to its head
  pub brought : (y : ℕ → ℕ) (a : ℕ) → binds g z a ≡ true → brings g z y (head g a) a ≡ handed g a (y (tail g a))
  brought y a r = grind (arith, nat_tests)

  pub least_lawful : Lawful g z (least g z)
  least_lawful = record {
    own = λ e w. let q = least_is e in omega arith;
    next = λ a w r.
        let q = least_is (head g a) in
        let b = brought (least g z) a r in
        let t = le_top (activity_count g) (brings g z (least g z) (head g a)) a w in
        omega arith;
  }

  -- no activity brings more than a lawful lateness has
  pub brings_le : (y x : ℕ → ℕ) → Lawful g z y → (e a : ℕ) → a < activity_count g → (head g a ≡ e → x (tail g a) ≤ y (tail g a)) → brings g z x e a ≤ y e
  brings_le y x l e a w h =
      let m : x (tail g a) ≤ y (tail g a) → handed g a (x (tail g a)) ≤ handed g a (y (tail g a)) = s.mono a (x (tail g a)) (y (tail g a)) in
      let n : binds g z a ≡ true → handed g a (y (tail g a)) ≤ y (head g a) = l.next a w in
      grind (arith, nat_tests)

  pub least_least : (y : ℕ → ℕ) → Lawful g z y → (e : ℕ) → least g z e ≤ y e
  least_least y l = by_below (λ e. least g z e ≤ y e) (λ e below.
      let q = least_is e in
      let o = own_all l e in
      let t = top_le (activity_count g) (brings g z (least g z) e) (y e) (λ a w. brings_le y (least g z) l e a w (λ p. let b = s.before a w in below (tail g a) (omega arith))) in
      omega arith)

  pub least_one : Least g z (least g z)
  least_one = record { lawful = least_lawful; no_later = λ x l e w. least_least x l e }
