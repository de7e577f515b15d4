-- What the late events cost, lot by lot. Late is any test of events.
use Rattle.std.proofs.Common.{◌≡◌, ℕ, ◌<◌, Bool, true, false, not, ◌&&◌, eqb, sym, refl, ◌∙◌, ap₂, arith}
use Rattle.std.proofs.lemmas.Bool.Decides.{nat_tests}
use Rattle.model.proofs.Ground.{Sound, keen}
use Rattle.model.specs.Lateness.{worst}
use Rattle.model.specs.Lots.{end, lot_count, path, whole}
use Rattle.model.specs.Meeting.{Apart}
use Rattle.model.specs.Tolls.{Fares, given, late_lots, miss_bill}
use Rattle.model.specs.Yard.{Yard, activity_count, event_count, tail}
use Rattle.sums.specs.Totals.{total}
use Rattle.tariff.specs.Tolls.{LawfulTolls, Tolls}
use Rattle.model.proofs.Sums.{sum_same, sum_plus, sum_swap, sum_at, given_sum, given_plus}
use Rattle.model.proofs.Shares.{has}
use Rattle.model.proofs.Bills.{cost}

module _ (g : Yard) {A : Type 0} (p : Tolls A) (l : Fares A) (bound : ℕ) (so : Sound g) (n : Apart g) (q : LawfulTolls p) (finish : (i : ℕ) → i < lot_count g → end g i < event_count g) (z late : ℕ → Bool) where
  abbrev cut : ℕ → Bool
  cut a = keen g a && (not (z a) && late (tail g a))

  by_ends : total p (lot_count g) (λ i. given p (whole g i && late (end g i)) (l.late i (worst g (end g i)))) ≡ total p (event_count g) (λ e. given p (late e) (late_lots g p l e))
  unfolding late_lots
  by_ends =
      sym (sum_same q (event_count g) _ _ (λ e h. given_sum q (late e) (lot_count g) (λ i. given p (whole g i && eqb (end g i) e) (l.late i (worst g e))))
      ∙ sum_swap q (event_count g) (lot_count g) (λ e i. given p (late e) (given p (whole g i && eqb (end g i) e) (l.late i (worst g e))))
      ∙ sum_same q (lot_count g) _ _ (λ i h. sum_same q (event_count g) _ _ (λ e k. swap i e) ∙ sum_at q (event_count g) (λ e. given p (whole g i && late e) (l.late i (worst g e))) (end g i) (finish i h)))
    where
      swap : (i e : ℕ) → given p (late e) (given p (whole g i && eqb (end g i) e) (l.late i (worst g e))) ≡ given p (eqb e (end g i)) (given p (whole g i && late e) (l.late i (worst g e)))
      swap i e = grind (arith, nat_tests)

  by_cuts : total p (lot_count g) (λ i. given p (whole g i) (total p (activity_count g) (λ a. given p (cut a && has a (path g i)) (l.miss i)))) ≡ total p (activity_count g) (λ a. given p (cut a) (miss_bill g p l a))
  unfolding miss_bill
  by_cuts =
      sum_same q (lot_count g) _ _ (λ i h. given_sum q (whole g i) (activity_count g) (λ a. given p (cut a && has a (path g i)) (l.miss i)))
      ∙ sum_swap q (lot_count g) (activity_count g) (λ i a. given p (whole g i) (given p (cut a && has a (path g i)) (l.miss i)))
      ∙ sum_same q (activity_count g) _ _ (λ a h. sum_same q (lot_count g) _ _ (λ i k. swap (whole g i) (cut a) (has a (path g i)) (l.miss i)) ∙ sym (given_sum q (cut a) (lot_count g) (λ i. given p (whole g i && has a (path g i)) (l.miss i))))
    where
      swap : (b c d : Bool) (x : A) → given p b (given p (c && d) x) ≡ given p c (given p (b && d) x)
      swap true true d x = refl
      swap true false d x = refl
      swap false true d x = refl
      swap false false d x = refl

  by_tails : total p (event_count g) (λ e. given p (late e) (total p (activity_count g) (λ a. given p (eqb (tail g a) e && (keen g a && not (z a))) (miss_bill g p l a)))) ≡ total p (activity_count g) (λ a. given p (cut a) (miss_bill g p l a))
  by_tails =
      sum_same q (event_count g) _ _ (λ e h. given_sum q (late e) (activity_count g) (λ a. given p (eqb (tail g a) e && (keen g a && not (z a))) (miss_bill g p l a)))
      ∙ sum_swap q (event_count g) (activity_count g) (λ e a. given p (late e) (given p (eqb (tail g a) e && (keen g a && not (z a))) (miss_bill g p l a)))
      ∙ sum_same q (activity_count g) _ _ (λ a h. sum_same q (event_count g) _ _ (λ e k. swap a e) ∙ sum_at q (event_count g) (λ e. given p (keen g a && (not (z a) && late e)) (miss_bill g p l a)) (tail g a) (let u = so.before a h in let v = so.within a h in omega arith))
    where
      swap : (a e : ℕ) → given p (late e) (given p (eqb (tail g a) e && (keen g a && not (z a))) (miss_bill g p l a)) ≡ given p (eqb e (tail g a)) (given p (keen g a && (not (z a) && late e)) (miss_bill g p l a))
      swap a e = grind (arith, nat_tests)

  -- a lot that is not struck: the late charge at a late end, and a miss for each of its cuts
  pub lot_part : ℕ → A
  lot_part i = p.plus (given p (late (end g i)) (l.late i (worst g (end g i)))) (total p (activity_count g) (λ a. given p (cut a && has a (path g i)) (l.miss i)))

  pub lot_part_is : (i : ℕ) → lot_part i ≡ p.plus (given p (late (end g i)) (l.late i (worst g (end g i)))) (total p (activity_count g) (λ a. given p (cut a && has a (path g i)) (l.miss i)))
  unfolding lot_part
  lot_part_is i = refl

  pub exchange : total p (lot_count g) (λ i. given p (whole g i) (lot_part i)) ≡ total p (event_count g) (λ e. given p (late e) (cost g p l bound so n q z e))
  unfolding lot_part cost
  exchange =
      sum_same q (lot_count g) _ _ (λ i h. part (whole g i) (late (end g i)) (l.late i (worst g (end g i))) (total p (activity_count g) (λ a. given p (cut a && has a (path g i)) (l.miss i))))
      ∙ sum_plus q (lot_count g) (λ i. given p (whole g i && late (end g i)) (l.late i (worst g (end g i)))) _
      ∙ ap₂ p.plus by_ends (by_cuts ∙ sym by_tails)
      ∙ sym (sum_plus q (event_count g) _ _)
      ∙ sum_same q (event_count g) _ _ (λ e h. sym (given_plus q (late e) (late_lots g p l e) _))
    where
      part : (b r : Bool) (x c : A) → given p b (p.plus (given p r x) c) ≡ p.plus (given p (b && r) x) (given p b c)
      part true r x c = refl
      part false r x c = sym (q.neutral p.nought)
