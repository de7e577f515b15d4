-- Sources counted, and the first that passes.
use Rattle.std.proofs.Common.{◌≡◌, ℕ, zero, suc, List, [], ◌∷◌, ◌++◌, ◌+◌, ◌<◌, ◌≤◌, Bool, true, false, cond, ◌&&◌, eqb, ltb, ◌⊎◌, length, get_or, Option, Some, None, sym, refl, ap, ◌∙◌, inl, inr, arith}
use Rattle.std.proofs.lemmas.Bool.{cases_lt, lt-ltb, le-ltb, cond-true, cond-false, both_ways}
use Rattle.model.specs.Yard.{event_count, activity_count, head, noted}
use Rattle.model.specs.Finite.{count, first, Lowest}
use Rattle.model.specs.Meeting.{live, into, sources}
use Rattle.model.proofs.Meets.{first_lowest}
use Rattle.sheet.specs.Rules.{activity_at}
use Rattle.timetable.specs.declared.day.Day.{Day}
use Rattle.timetable.specs.Days.{yard_of}
use Rattle.timetable.specs.Found.{below, found_first}
use Rattle.std.specs.Option.{MatchOption}
use Rattle.std.specs.List.{range_with_len, filter, count_by, AllWithin, HoldsAt}
use Rattle.std.proofs.lemmas.List.Sums.{length-filter, sum_by-append}

and_true : (b : Bool) → b ≡ b && true
and_true true = refl
and_true false = refl

and_false : (b : Bool) → false ≡ b && false
and_false true = refl
and_false false = refl

-- an activity with this head comes into it where it is live, and into no other event
pub into_head : (rule : ℕ → ℕ → ℕ) (d : Day) (e a h : ℕ) → h ≡ (activity_at d.sheet.activities.now a).head → eqb h e ≡ true → live (yard_of rule d) a ≡ into (yard_of rule d) e a
unfolding head
into_head rule d e a h k t = and_true (live (yard_of rule d) a) ∙ ap (λ (b : Bool). live (yard_of rule d) a && b) (sym t ∙ ap (λ (j : ℕ). eqb j e) k)

pub into_elsewhere : (rule : ℕ → ℕ → ℕ) (d : Day) (e a h : ℕ) → h ≡ (activity_at d.sheet.activities.now a).head → eqb h e ≡ false → eqb h e ≡ into (yard_of rule d) e a
unfolding head
into_elsewhere rule d e a h k f = f ∙ and_false (live (yard_of rule d) a) ∙ ap (λ (b : Bool). live (yard_of rule d) a && b) (sym f ∙ ap (λ (j : ℕ). eqb j e) k)

-- the activities counted, from the first to the last
range_more : (a n : ℕ) → range_with_len a (suc n) ≡ range_with_len a n ++ ((a + n) ∷ [])
range_more a zero = let e : a ≡ a + 0 = omega arith in ap (λ (k : ℕ). k ∷ []) e
range_more a (suc n) =
    let e : (a + 1) + n ≡ a + suc n = omega arith in
    ap (λ (s : List ℕ). a ∷ s) (range_more (a + 1) n ∙ ap (λ (k : ℕ). range_with_len (a + 1) n ++ (k ∷ [])) e)

counted_one : (t : ℕ → Bool) (xs : List ℕ) (y : ℕ) → count_by t (xs ++ (y ∷ [])) ≡ count_by t xs + cond (t y) 1 0
counted_one t xs y = sum_by-append (λ x. cond (t x) 1 0) xs (y ∷ []) ∙ omega arith

counted_by : (t : ℕ → Bool) (n : ℕ) → count_by t (range_with_len 0 n) ≡ count n t
unfolding count
counted_by t zero = refl
counted_by t (suc n) =
    ap (count_by t) (range_more 0 n) ∙ counted_one t (range_with_len 0 n) (0 + n)
    ∙ ap (λ (k : ℕ). k + cond (t (0 + n)) 1 0) (counted_by t n) ∙ ap (λ (k : ℕ). count n t + cond (t k) 1 0) (omega arith)

pub counted : (t : ℕ → Bool) (n : ℕ) → length (filter t (range_with_len 0 n)) ≡ count n t
counted t n = length-filter t (range_with_len 0 n) ∙ counted_by t n

-- an event's sources: those counted, and its own delay
pub sources_are : (rule : ℕ → ℕ → ℕ) (d : Day) (e n : ℕ) → e < length d.sheet.events.now → n ≡ count (length d.sheet.activities.now) (into (yard_of rule d) e)
    → n + cond (ltb 0 (get_or d.delays.now e 0)) 1 0 ≡ sources (yard_of rule d) e
unfolding sources activity_count noted event_count
sources_are rule d e n h k =
    ap (λ (j : ℕ). j + cond (ltb 0 (get_or d.delays.now e 0)) 1 0) k
    ∙ ap (λ (m : ℕ). count (length d.sheet.activities.now) (into (yard_of rule d) e) + cond (ltb 0 m) 1 0) (sym (cond-true (ltb e (length d.sheet.events.now)) (get_or d.delays.now e 0) 0 (lt-ltb e (length d.sheet.events.now) h)))

-- the first that passes, by one that does with none below
pub first_at : (n k : ℕ) (t : ℕ → Bool) → k < n → t k ≡ true → ((i : ℕ) → i < k → t i ≡ false) → Some k ≡ found_first n t
first_at n k t h p b =
    let l = first_lowest n t in
    let e : first n t ≡ k = go l (cases_lt (first n t) k) (cases_lt k (first n t)) in
    sym (ap (below n) e ∙ cond-true (ltb k n) (Some k) None (lt-ltb k n h))
  where
    go : Lowest n t (first n t) → (first n t < k) ⊎ (k ≤ first n t) → (k < first n t) ⊎ (first n t ≤ k) → first n t ≡ k
    go l (inl x) y = absurd (both_ways (t (first n t)) (b (first n t) x) (l.passes (omega arith)))
    go l (inr x) (inl y) = absurd (both_ways (t k) (l.below k y) p)
    go l (inr x) (inr y) = omega arith

pub first_none : (n : ℕ) (t : ℕ → Bool) → ((i : ℕ) → i < n → t i ≡ false) → None ≡ found_first n t
first_none n t b = go (cases_lt (first n t) n)
  where
    go : (first n t < n) ⊎ (n ≤ first n t) → None ≡ found_first n t
    go (inl x) = absurd (both_ways (t (first n t)) (b (first n t) x) ((first_lowest n t).passes x))
    go (inr x) = sym (cond-false (ltb (first n t) n) (Some (first n t)) None (le-ltb (first n t) n x))

-- what a search through 0 .. n - 1 says of the number that it found
pub found_by : (n : ℕ) (t : ℕ → Bool) (r : Option ℕ) → MatchOption r ((k : ℕ) → 0 ≤ k → k < n → t k ≡ false) (λ i. (0 ≤ i) × (i < n) × (t i ≡ true) × ((k : ℕ) → 0 ≤ k → k < i → t k ≡ false)) → r ≡ found_first n t
found_by n t None h = first_none n t (λ i w. h i (omega arith) w)
found_by n t (Some k) h = first_at n k t h.1 h.2 (λ i w. h.3 i (omega arith) w)

-- what a search through a list says of the place that it found, where the list's items pass by their numbers
pub found_in : {X : Type 0} (n : ℕ) (t : ℕ → Bool) (u : X → Bool) (xs : List X) (d : X) → n ≡ length xs → ((i : ℕ) → i < n → t i ≡ u (get_or xs i d)) → (r : Option ℕ)
    → MatchOption r (AllWithin (λ x. u x ≡ false) xs 0 (length xs)) (λ i. (i < length xs) × HoldsAt (λ x. u x ≡ true) xs i × AllWithin (λ x. u x ≡ false) xs 0 i) → r ≡ found_first n t
found_in n t u xs d e s None h = first_none n t (λ i w. s i w ∙ h i d (omega arith) (omega (arith, e)))
found_in n t u xs d e s (Some k) h = first_at n k t (omega (arith, h.0, e)) (s k (omega (arith, h.0, e)) ∙ h.1 d) (λ i w. s i (omega (arith, h.0, e, w)) ∙ h.2 i d (omega arith) w)
