-- No event with two sources: the delays are apart, and the other way round; the scan finds the lowest.
use Rattle.std.proofs.Common.{◌≡◌, ℕ, zero, suc, ◌+◌, ◌<◌, ◌≤◌, Bool, true, false, cond, ◌&&◌, eqb, ltb, ◌⊎◌, ◌↔◌, sym, refl, ap, ◌∙◌, subst, inl, inr, arith}
use Rattle.std.proofs.lemmas.Bool.{cases_eq, cases_Bool, cases_lt, eqb-true, eq-eqb, and_parts, and_from, leb-false, lt-leb, lt-ltb, le-ltb, cond-true, cond-false}
use Rattle.std.proofs.lemmas.Bool.Decides.{nat_tests}
use Rattle.model.proofs.Ground.{Sound}
use Rattle.model.specs.Finite.{Lowest, count, first}
use Rattle.model.specs.Meeting.{Apart, live, meets, sources}
use Rattle.model.specs.Yard.{Yard, activity_count, event_count, head, noted}

-- one that passes counts
pub count_one : (n : ℕ) (t : ℕ → Bool) (a : ℕ) → a < n → t a ≡ true → 1 ≤ count n t
unfolding count
count_one zero t a h k = omega arith
count_one (suc n) t a h k = go (cases_eq a n) (λ j. count_one n t a j k)
  where
    go : (a ≡ n) ⊎ (a ≡ n → ⊥) → (a < n → 1 ≤ count n t) → 1 ≤ count n t + cond (t n) 1 0
    go (inl e) r = let c : cond {A = ℕ} (t n) 1 0 ≡ 1 = cond-true (t n) 1 0 (ap t (sym e) ∙ k) in omega arith
    go (inr ne) r = let c = r (omega arith) in omega arith

-- .. and two count as two
pub count_two : (n : ℕ) (t : ℕ → Bool) (a b : ℕ) → a < b → b < n → t a ≡ true → t b ≡ true → 2 ≤ count n t
unfolding count
count_two zero t a b o h k l = omega arith
count_two (suc n) t a b o h k l = go (cases_eq b n) (λ j. count_two n t a b o j k l)
  where
    go : (b ≡ n) ⊎ (b ≡ n → ⊥) → (b < n → 2 ≤ count n t) → 2 ≤ count n t + cond (t n) 1 0
    go (inl e) r =
        let c : cond {A = ℕ} (t n) 1 0 ≡ 1 = cond-true (t n) 1 0 (ap t (sym e) ∙ l) in
        let d : 1 ≤ count n t = count_one n t a (omega arith) k in
        omega arith
    go (inr ne) r = let c = r (omega arith) in omega arith

pub count_none : (n : ℕ) (t : ℕ → Bool) → ((a : ℕ) → a < n → t a ≡ false) → count n t ≡ 0
unfolding count
count_none zero t h = refl
count_none (suc n) t h =
    let r : count n t ≡ 0 = count_none n t (λ a k. h a (omega arith)) in
    let c : cond {A = ℕ} (t n) 1 0 ≡ 0 = cond-false (t n) 1 0 (h n (omega arith)) in
    omega arith

-- where all that pass are one, at worst one counts
pub count_same : (n : ℕ) (t : ℕ → Bool) → ((a b : ℕ) → a < n → b < n → t a ≡ true → t b ≡ true → a ≡ b) → count n t ≤ 1
unfolding count
count_same zero t h = omega arith
count_same (suc n) t h = go (cases_Bool (t n)) (count_same n t (λ a b k l. h a b (omega arith) (omega arith)))
  where
    none : t n ≡ true → (a : ℕ) → a < n → (t a ≡ true) ⊎ (t a ≡ false) → t a ≡ false
    none k a l (inl e) = absurd (let s : a ≡ n = h a n (omega arith) (omega arith) e k in omega arith)
    none k a l (inr e) = e

    go : (t n ≡ true) ⊎ (t n ≡ false) → count n t ≤ 1 → count n t + cond (t n) 1 0 ≤ 1
    go (inl k) r =
        let c : cond {A = ℕ} (t n) 1 0 ≡ 1 = cond-true (t n) 1 0 k in
        let d : count n t ≡ 0 = count_none n t (λ a l. none k a l (cases_Bool (t a))) in
        omega arith
    go (inr k) r = let c : cond {A = ℕ} (t n) 1 0 ≡ 0 = cond-false (t n) 1 0 k in omega arith

pub first_lowest : (n : ℕ) (t : ℕ → Bool) → Lowest n t (first n t)
unfolding first
first_lowest zero t = record { within = omega arith; passes = λ h. absurd (omega arith); below = λ i h. absurd (omega arith) }
first_lowest (suc n) t = go (cases_lt (first n t) n) (cases_Bool (t n)) (first_lowest n t)
  where
    here : (i : ℕ) → Lowest n t (first n t) → n ≤ first n t → t n ≡ false → i < suc n → (i ≡ n) ⊎ (i ≡ n → ⊥) → t i ≡ false
    here i r h f k (inl e) = ap t e ∙ f
    here i r h f k (inr ne) = r.below i (omega arith)

    go : (first n t < n) ⊎ (n ≤ first n t) → (t n ≡ true) ⊎ (t n ≡ false) → Lowest n t (first n t) → Lowest (suc n) t (cond (ltb (first n t) n) (first n t) (cond (t n) n (suc n)))
    go (inl h) c r = subst (λ k. Lowest (suc n) t k) (sym (cond-true (ltb (first n t) n) _ _ (lt-ltb (first n t) n h))) (record { within = (let w = r.within in omega arith); passes = λ k. r.passes h; below = r.below })
    go (inr h) (inl k) r =
        subst (λ k. Lowest (suc n) t k) (sym (cond-false (ltb (first n t) n) _ _ (le-ltb (first n t) n h) ∙ cond-true (t n) n (suc n) k))
        (record { within = omega arith; passes = λ j. k; below = λ i j. r.below i (omega arith) })
    go (inr h) (inr k) r =
        subst (λ k. Lowest (suc n) t k) (sym (cond-false (ltb (first n t) n) _ _ (le-ltb (first n t) n h) ∙ cond-false (t n) n (suc n) k))
        (record { within = omega arith; passes = λ j. absurd (omega arith); below = λ i j. here i r h k j (cases_eq i n) })

module _ (g : Yard) (so : Sound g) where
  abbrev into : ℕ → ℕ → Bool
  into e a = live g a && eqb (head g a) e

  into_head : (a e : ℕ) → live g a ≡ true → head g a ≡ e → into e a ≡ true
  into_head a e l h = and_from (live g a) (eqb (head g a) e) l (eq-eqb (head g a) e h)

  pub apart_from : ((e : ℕ) → e < event_count g → sources g e < 2) → Apart g
  unfolding sources
  apart_from h = record {
    one = λ a b v w k l e. go a b v w k l e (cases_lt a b) (cases_lt b a);
    fresh = λ a w l.
        let s = h (head g a) (so.within a w) in
        let c = count_one (activity_count g) (into (head g a)) a w (into_head a (head g a) l refl) in
        grind (arith, nat_tests);
  }
    where
      go : (a b : ℕ) → a < activity_count g → b < activity_count g → live g a ≡ true → live g b ≡ true → head g a ≡ head g b → (a < b) ⊎ (b ≤ a) → (b < a) ⊎ (a ≤ b) → a ≡ b
      go a b v w k l e (inl o) t =
          let s = h (head g b) (so.within b w) in
          let c = count_two (activity_count g) (into (head g b)) a b o w (into_head a (head g b) k e) (into_head b (head g b) l refl) in
          omega arith
      go a b v w k l e (inr o) (inl t) =
          let s = h (head g b) (so.within b w) in
          let c = count_two (activity_count g) (into (head g b)) b a t v (into_head b (head g b) l refl) (into_head a (head g b) k e) in
          omega arith
      go a b v w k l e (inr o) (inr t) = omega arith

  pub apart_to : Apart g → (e : ℕ) → sources g e < 2
  unfolding sources
  apart_to n e = go (cases_Bool (ltb 0 (noted g e)))
    where
      one : (a b : ℕ) → a < activity_count g → b < activity_count g → into e a ≡ true → into e b ≡ true → a ≡ b
      one a b v w k l =
          let i = and_parts (live g a) (eqb (head g a) e) k in
          let j = and_parts (live g b) (eqb (head g b) e) l in
          n.one a b v w i.0 j.0 (eqb-true (head g a) e i.1 ∙ sym (eqb-true (head g b) e j.1))

      none : ltb 0 (noted g e) ≡ true → (a : ℕ) → a < activity_count g → (into e a ≡ true) ⊎ (into e a ≡ false) → into e a ≡ false
      none d a w (inl k) = absurd (
          let i = and_parts (live g a) (eqb (head g a) e) k in
          let f : noted g e ≡ 0 = ap (noted g) (sym (eqb-true (head g a) e i.1)) ∙ n.fresh a w i.0 in
          grind (arith, nat_tests))
      none d a w (inr k) = k

      go : (ltb 0 (noted g e) ≡ true) ⊎ (ltb 0 (noted g e) ≡ false) → count (activity_count g) (into e) + cond (ltb 0 (noted g e)) 1 0 < 2
      go (inl d) =
          let c : cond {A = ℕ} (ltb 0 (noted g e)) 1 0 ≡ 1 = cond-true (ltb 0 (noted g e)) 1 0 d in
          let z : count (activity_count g) (into e) ≡ 0 = count_none (activity_count g) (into e) (λ a w. none d a w (cases_Bool (into e a))) in
          omega arith
      go (inr d) =
          let c : cond {A = ℕ} (ltb 0 (noted g e)) 1 0 ≡ 0 = cond-false (ltb 0 (noted g e)) 1 0 d in
          let z = count_same (activity_count g) (into e) one in
          omega arith

-- delays meet nowhere exactly where no event has two sources
pub meets_nowhere : (g : Yard) → Sound g → ((e : ℕ) → e < event_count g → meets g e ≡ false) ↔ Apart g
meets_nowhere g so = (
  (λ h. apart_from g so (λ e w. leb-false 2 (sources g e) (h e w))),
  (λ n e w. lt-leb 2 (sources g e) (apart_to g so n e)),
)
