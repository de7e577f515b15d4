-- Room for each sum that the bills form: the bulk stays within a cap.
use Rattle.std.proofs.Common.{◌≡◌, ℕ, zero, suc, ◌+◌, ◌<◌, ◌≤◌, Bool, true, cond, not, ◌&&◌, eqb, ltb}
use Rattle.tariff.specs.Tolls.{Tolls}
use Rattle.model.specs.Yard.{Yard, event_count, activity_count, tail, head, noted}
use Rattle.model.specs.Finite.{some}
use Rattle.model.specs.Lateness.{worst}
use Rattle.model.specs.Meeting.{live}
use Rattle.model.specs.Lots.{lot_count, path, end, whole}
use Rattle.model.specs.Tolls.{Fares, miss_bill, branch, bill, plan_toll}

-- what a lot pays is never bulkier than its weight
pub record Weighed {A : Type 0} (g : Yard) (p : Tolls A) (l : Fares A) (bound : ℕ) (u : ℕ → ℕ) : Type 0 where
  pub lates : (i t : ℕ) → i < lot_count g → t ≤ bound → p.bulk (l.late i t) ≤ u i
  pub misses : (i : ℕ) → i < lot_count g → p.bulk (l.miss i) ≤ u i

-- a loop that adds f k to x where t k passes
unfoldable pub loop : {A : Type 0} (p : Tolls A) → A → ℕ → (ℕ → Bool) → (ℕ → A) → A
loop p x zero t f = x
loop p x (suc k) t f = cond (t k) (p.plus (loop p x k t f) (f k)) (loop p x k t f)

-- each sum that the loop forms, and each pair that it adds, is within the cap
pub record Roomy {A : Type 0} (p : Tolls A) (cap : ℕ) (x : A) (n : ℕ) (t : ℕ → Bool) (f : ℕ → A) : Type 0 where
  pub held : (k : ℕ) → k ≤ n → p.bulk (loop p x k t f) ≤ cap
  pub room : (k : ℕ) → k < n → t k ≡ true → p.bulk (loop p x k t f) + p.bulk (f k) ≤ cap

module _ {A : Type 0} (g : Yard) (p : Tolls A) (l : Fares A) where
  abbrev pub lots_loop : ℕ → ℕ → A
  lots_loop e k = loop p p.nought k (λ i. whole g i && eqb (end g i) e) (λ i. l.late i (worst g e))

  abbrev pub acts_loop : ℕ → ℕ → A
  acts_loop e k = loop p (lots_loop e (lot_count g)) k (λ a. eqb (tail g a) e && live g a) (λ a. branch g p l a (bill g p l (head g a)))

  abbrev pub lost_loop : ℕ → A
  lost_loop k = loop p p.nought k (λ i. not (whole g i)) (λ i. l.miss i)

  module _ (cap : ℕ) where
    pub record BillRoomy (e : ℕ) : Type 0 where
      pub lots : Roomy p cap p.nought (lot_count g) (λ i. whole g i && eqb (end g i) e) (λ i. l.late i (worst g e))
      pub acts : Roomy p cap (lots_loop e (lot_count g)) (activity_count g) (λ a. eqb (tail g a) e && live g a) (λ a. branch g p l a (bill g p l (head g a)))
      pub is : acts_loop e (activity_count g) ≡ bill g p l e
      pub fits : p.bulk (bill g p l e) ≤ cap

    pub record MissRoomy (a : ℕ) : Type 0 where
      pub lots : Roomy p cap p.nought (lot_count g) (λ i. whole g i && some (λ b. eqb b a) (path g i)) (λ i. l.miss i)
      pub is : loop p p.nought (lot_count g) (λ i. whole g i && some (λ b. eqb b a) (path g i)) (λ i. l.miss i) ≡ miss_bill g p l a
      pub fits : p.bulk (miss_bill g p l a) ≤ cap

    pub record PlanRoomy : Type 0 where
      pub lost : Roomy p cap p.nought (lot_count g) (λ i. not (whole g i)) (λ i. l.miss i)
      pub roots : Roomy p cap (lost_loop (lot_count g)) (event_count g) (λ e. ltb 0 (noted g e)) (bill g p l)
      pub is : loop p (lost_loop (lot_count g)) (event_count g) (λ e. ltb 0 (noted g e)) (bill g p l) ≡ plan_toll g p l
      pub fits : p.bulk (plan_toll g p l) ≤ cap
