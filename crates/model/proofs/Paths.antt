-- Tests along a path, and what a cut leaves after it.
use Rattle.std.proofs.Common.{◌≡◌, ℕ, ◌<◌, Bool, true, false, not, ◌&&◌, ◌||◌, eqb, ltb, ◌⊎◌, List, [], ◌∷◌, ◌++◌, refl, ap, ◌∙◌, inl, inr, arith}
use Rattle.std.proofs.lemmas.Bool.{cases_Bool, ne_eqb, or_parts, or_from, and_left}
use Rattle.std.proofs.lemmas.Bool.Decides.{nat_tests}
use Rattle.model.proofs.Ground.{Chain, Sound, keen}
use Rattle.model.specs.Finite.{some}
use Rattle.model.specs.Lateness.{Choice, least, worst}
use Rattle.model.specs.Lots.{ends}
use Rattle.model.specs.Meeting.{Apart, live}
use Rattle.model.specs.Yard.{Yard, activity_count, head, tail, unmarked}
use Rattle.model.proofs.Forest.{zero_below, below_worst}

-- a test passes nowhere where one that it implies passes nowhere
pub some_less : (t u : ℕ → Bool) (s : List ℕ) → ((a : ℕ) → u a ≡ false → t a ≡ false) → some u s ≡ false → some t s ≡ false
unfolding some
some_less t u [] h k = refl
some_less t u (a ∷ s) h k =
    let j = or_parts (u a) (some u s) k in
    or_from (t a) (some t s) (h a j.0) (some_less t u s h j.1)

-- what passes a test that passes nowhere is not there
pub not_there : (t : ℕ → Bool) (a : ℕ) (s : List ℕ) → some t s ≡ false → t a ≡ true → some (λ b. eqb b a) s ≡ false
not_there t a s k h = some_less (λ b. eqb b a) t s (λ b f. ne_eqb b a (λ e. go b f e)) k
  where
    go : (b : ℕ) → t b ≡ false → b ≡ a → ⊥
    go b f e = let i : t b ≡ t a = ap t e in grind arith

pub some_append : (t : ℕ → Bool) (u s : List ℕ) → some t (u ++ s) ≡ (some t u || some t s)
unfolding some
some_append t [] s = refl
some_append t (a ∷ u) s = let r = some_append t u s in go (t a) r
  where
    go : (b : Bool) → some t (u ++ s) ≡ (some t u || some t s) → (b || some t (u ++ s)) ≡ ((b || some t u) || some t s)
    go true r = refl
    go false r = r

-- the first place where the test passes
pub record Split (t : ℕ → Bool) (s : List ℕ) : Type 0 where
  pub front : List ℕ
  pub at : ℕ
  pub back : List ℕ
  pub is : s ≡ front ++ (at ∷ back)
  pub none_before : some t front ≡ false
  pub passes : t at ≡ true

pub split : (t : ℕ → Bool) (s : List ℕ) → (some t s ≡ false) ⊎ Split t s
unfolding some
split t [] = inl refl
split t (a ∷ s) = go (cases_Bool (t a)) (split t s)
  where
    go : (t a ≡ true) ⊎ (t a ≡ false) → (some t s ≡ false) ⊎ Split t s → ((t a || some t s) ≡ false) ⊎ Split t (a ∷ s)
    go (inl h) r = inr (record { front = []; at = a; back = s; is = refl; none_before = refl; passes = h })
    go (inr h) (inl r) = inl (or_from (t a) (some t s) h r)
    go (inr h) (inr r) = inr (record { front = a ∷ r.front; at = r.at; back = r.back; is = ap (◌∷◌ a) r.is; none_before = or_from (t a) (some t r.front) h r.none_before; passes = r.passes })

module _ (g : Yard) where
  pub ends_append : (e : ℕ) (u s : List ℕ) → ends g e (u ++ s) ≡ ends g (ends g e u) s
  unfolding ends
  ends_append e [] s = refl
  ends_append e (a ∷ u) s = ends_append (head g a) u s

  pub chain_after : (e : ℕ) (u s : List ℕ) → Chain g e (u ++ s) → Chain g (ends g e u) s
  unfolding ends
  chain_after e [] s c = c
  chain_after e (a ∷ u) s c = chain_after (head g a) u s c.2

  -- a test that passes on a path only where one of two does
  pub some_on : (t u v : ℕ → Bool) (e : ℕ) (s : List ℕ) → Chain g e s → ((a : ℕ) → a < activity_count g → u a ≡ false → v a ≡ false → t a ≡ false) → some u s ≡ false → some v s ≡ false → some t s ≡ false
  unfolding some
  some_on t u v e [] c h k l = refl
  some_on t u v e (a ∷ s) c h k l =
      let j = or_parts (u a) (some u s) k in
      let m = or_parts (v a) (some v s) l in
      or_from (t a) (some t s) (h a c.0 j.0 m.0) (some_on t u v (head g a) s c.2 h j.1 m.1)

  module _ (so : Sound g) (n : Apart g) (z : Choice) where
    -- z lets a keen transfer go whose tail is late
    abbrev pub cut : ℕ → Bool
    cut a = keen g a && (not (z a) && ltb 0 (least g z (tail g a)))

    -- from an event on time, on a path that is untangled from there: no cut, and an end on time
    pub after_cut : (e : ℕ) (s : List ℕ) → Chain g e s → least g z e ≡ 0 →
        ((v w : List ℕ) (b : ℕ) → s ≡ v ++ (b ∷ w) → live g b ≡ false → (some (keen g) w ≡ false) × (worst g (ends g e s) ≡ 0)) →
        (some cut s ≡ false) × (least g z (ends g e s) ≡ 0)
    unfolding some ends
    after_cut e [] c o h = (refl, o)
    after_cut e (b ∷ s) c o h = go (cases_Bool (live g b)) (λ o'. after_cut (head g b) s c.2 o' (λ v w d q. h (b ∷ v) w d (ap (◌∷◌ b) q)))
      where
        tail_on_time : least g z (tail g b) ≡ 0
        tail_on_time = ap (least g z) c.1 ∙ o

        cut_keen : (a : ℕ) → keen g a ≡ false → cut a ≡ false
        cut_keen a k = and_left (keen g a) (not (z a) && ltb 0 (least g z (tail g a))) k

        go : (live g b ≡ true) ⊎ (live g b ≡ false) → (least g z (head g b) ≡ 0 → (some cut s ≡ false) × (least g z (ends g (head g b) s) ≡ 0)) →
            ((cut b || some cut s) ≡ false) × (least g z (ends g (head g b) s) ≡ 0)
        go (inl l) r =
            let k = r (zero_below g so z n b c.0 l (inr tail_on_time)) in
            let f : cut b ≡ false = let t = tail_on_time in grind (arith, nat_tests) in
            (or_from (cut b) (some cut s) f k.0, k.1)
        go (inr l) r =
            let k = h [] s b refl l in
            let f : cut b ≡ false = cut_keen b (and_left (live g b) (unmarked g b) l) in
            let m = below_worst g so z (ends g (head g b) s) in
            (or_from (cut b) (some cut s) f (some_less cut (keen g) s cut_keen k.0), omega arith)
