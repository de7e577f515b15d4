-- There is a plan.
use Rattle.std.proofs.Common.{◌≡◌, ℕ, max, Bool, not, ◌&&◌, ltb, sym, refl, ap, ◌∙◌, arith}
use Rattle.std.proofs.lemmas.Bool.Decides.{nat_tests}
use Rattle.model.proofs.Ground.{Sound}
use Rattle.model.specs.Lateness.{brings, least}
use Rattle.model.specs.Meeting.{live}
use Rattle.model.specs.Tolls.{Fares, Planned, bill, miss_bill}
use Rattle.model.specs.Yard.{Yard, activity_count, handed, head, noted, tail}
use Rattle.tariff.specs.Tolls.{Tolls}
use Rattle.model.proofs.Tops.{top_same, by_below}
use Rattle.model.proofs.Lateness.{least_is}

module _ (g : Yard) {A : Type 0} (p : Tolls A) (l : Fares A) (so : Sound g) where
  -- each keen transfer goes whose misses cost no more than the waiting
  pub lean : ℕ → Bool
  lean a = not (live g a && p.at_most (miss_bill g p l a) (bill g p l (head g a)))

  -- .. where its tail is late at all
  pub planned : ℕ → Bool
  planned a = not (live g a && (ltb 0 (least g lean (tail g a)) && p.at_most (miss_bill g p l a) (bill g p l (head g a))))

  brings_both : (e a : ℕ) → (head g a ≡ e → least g planned (tail g a) ≡ least g lean (tail g a)) → brings g planned (least g planned) e a ≡ brings g lean (least g lean) e a
  unfolding lean planned
  brings_both e a h =
      let k : least g planned (tail g a) ≡ 0 → handed g a (least g planned (tail g a)) ≡ 0 = λ t. ap (handed g a) t ∙ so.still a in
      let j : head g a ≡ e → handed g a (least g planned (tail g a)) ≡ handed g a (least g lean (tail g a)) = λ t. ap (handed g a) (h t) in
      grind (arith, nat_tests)

  pub same_least : (e : ℕ) → least g planned e ≡ least g lean e
  same_least = by_below (λ e. least g planned e ≡ least g lean e) (λ e below.
      least_is g so planned e
      ∙ ap (max (noted g e)) (top_same (activity_count g) _ _ (λ a w. brings_both e a (λ t. let b = so.before a w in below (tail g a) (omega arith))))
      ∙ sym (least_is g so lean e))

  -- what they are
  pub lean_is : (a : ℕ) → lean a ≡ not (live g a && p.at_most (miss_bill g p l a) (bill g p l (head g a)))
  unfolding lean
  lean_is a = refl

  pub planned_at : (a : ℕ) → planned a ≡ not (live g a && (ltb 0 (least g lean (tail g a)) && p.at_most (miss_bill g p l a) (bill g p l (head g a))))
  unfolding planned
  planned_at a = refl

  pub planned_is : Planned g p l planned
  unfolding Planned planned
  planned_is a w t = ap (λ n. not (live g a && (ltb 0 n && p.at_most (miss_bill g p l a) (bill g p l (head g a))))) (sym (same_least (tail g a)))
