-- What the proofs stand on: the order of a sheet's activities and the laws of the rule, and the lots on their ways.
use Rattle.std.proofs.Common.{◌≡◌, ℕ, ◌<◌, ◌≤◌, Bool, true, false, cond, ◌&&◌, ◌⊎◌, List, [], ◌∷◌, ◌++◌, ap, inl, inr, arith}
use Rattle.std.proofs.lemmas.Bool.{cases_lt, cases_Bool, le-ltb}
use Rattle.tariff.specs.Tolls.{Tolls, LawfulTolls}
use Rattle.model.specs.Yard.{Yard, event_count, activity_count, tail, head, handed, noted, unmarked}
use Rattle.model.specs.Finite.{some}
use Rattle.model.specs.Lateness.{Choice, Lawful, worst}
use Rattle.model.specs.Meeting.{live}
use Rattle.model.specs.Lots.{lot_count, path, end, start, whole}
use Rattle.model.specs.Tolls.{Fares}

pub record Sound (g : Yard) : Type 0 where
  pub before : (a : ℕ) → a < activity_count g → tail g a < head g a
  pub within : (a : ℕ) → a < activity_count g → head g a < event_count g
  pub still : (a : ℕ) → handed g a 0 ≡ 0
  pub mono : (a l m : ℕ) → l ≤ m → handed g a l ≤ handed g a m
  pub under : (a l : ℕ) → handed g a l ≤ l

-- nothing is noted past the sheet's events
pub noted_past : (g : Yard) (e : ℕ) → event_count g ≤ e → noted g e ≡ 0
unfolding noted
noted_past g e h = ap (λ (b : Bool). cond b (g.delay e) 0) (le-ltb e (event_count g) h)

pub own_all : {g : Yard} {z : Choice} {y : ℕ → ℕ} → Lawful g z y → (e : ℕ) → noted g e ≤ y e
own_all {g} {z} {y} l e = go (cases_lt e (event_count g))
  where
    go : (e < event_count g) ⊎ (event_count g ≤ e) → noted g e ≤ y e
    go (inl h) = l.own e h
    go (inr h) = let n = noted_past g e h in omega arith

-- each step begins where the one before ended
abbrev pub Chain : Yard → ℕ → List ℕ → Type 0
Chain g e [] = Unit {0}
Chain g e (a ∷ s) = (a < activity_count g) × (tail g a ≡ e) × Chain g (head g a) s

-- a transfer that the choice decides and that matters
abbrev pub keen : Yard → ℕ → Bool
keen g a = live g a && unmarked g a

abbrev pub Le : {A : Type 0} → Tolls A → A → A → Type 0
Le p x y = p.at_most x y ≡ true

-- a toll is at most itself
pub self : {A : Type 0} {p : Tolls A} → LawfulTolls p → (x : A) → Le p x x
self {A} {p} q x = go (cases_Bool (p.at_most x x))
  where
    go : (p.at_most x x ≡ true) ⊎ (p.at_most x x ≡ false) → Le p x x
    go (inl h) = h
    go (inr h) = q.total x x h

pub record Orderly {A : Type 0} (g : Yard) (p : Tolls A) (l : Fares A) (bound : ℕ) : Type 0 where
  pub chain : (i : ℕ) → i < lot_count g → Chain g (start g i) (path g i)
  pub finish : (i : ℕ) → i < lot_count g → end g i < event_count g
  pub free : (i : ℕ) → i < lot_count g → l.late i 0 ≡ p.nought
  pub dearer : (i t u : ℕ) → i < lot_count g → t ≤ u → Le p (l.late i t) (l.late i u)
  pub covers : (i t : ℕ) → i < lot_count g → t ≤ bound → Le p (l.late i t) (l.miss i)
  pub bounded : (e : ℕ) → noted g e ≤ bound
  -- after a live transfer and a later step that is not live there is no live transfer, and the end is on time
  pub untangled : (i : ℕ) → i < lot_count g → whole g i ≡ true → (u v w : List ℕ) (a b : ℕ) →
      path g i ≡ u ++ (a ∷ (v ++ (b ∷ w))) → keen g a ≡ true → live g b ≡ false →
      (some (keen g) w ≡ false) × (worst g (end g i) ≡ 0)
