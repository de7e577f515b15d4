-- What is reached from given roots, and that no lot is reached twice.
use Rattle.std.proofs.Common.{◌≡◌, ℕ, zero, suc, ◌+◌, ◌<◌, ◌≤◌, Bool, true, false, cond, not, ◌&&◌, ◌||◌, eqb, ◌⊎◌, List, [], ◌∷◌, ◌++◌, Decides, sym, refl, ap, ◌∙◌, subst, ap₂, inl, inr, arith}
use Rattle.std.proofs.lemmas.Bool.{cases_Bool, eqb-true, and_parts, and_left, and_right, or_parts, or_cases, or_right, both_ways, cond-true, cond-false, not-true}
use Rattle.std.proofs.lemmas.Bool.Decides.{nat_tests, Decides-below_or}
use Rattle.model.proofs.Ground.{Chain, Sound, keen}
use Rattle.model.specs.Finite.{some, turns}
use Rattle.model.specs.Lateness.{all_wait, binds, worst}
use Rattle.model.specs.Lots.{ends}
use Rattle.model.specs.Meeting.{Apart, live}
use Rattle.model.specs.Tolls.{given}
use Rattle.model.specs.Yard.{Yard, activity_count, handed, head, struck, tail, unmarked}
use Rattle.sums.specs.Totals.{total}
use Rattle.tariff.specs.Tolls.{LawfulTolls, Tolls}
use Rattle.model.proofs.Tops.{by_below, found}
use Rattle.model.proofs.Turns.{turns_is}
use Rattle.model.proofs.Forest.{worst_lawful}
use Rattle.model.proofs.Sums.{right, sum_none, sum_one}
use Rattle.model.proofs.Paths.{some_less}

-- some number below n passes
unfoldable pub any : ℕ → (ℕ → Bool) → Bool
any zero t = false
any (suc n) t = t n || any n t

pub any_decides : (n : ℕ) (t : ℕ → Bool) → Decides (any n t) ((a : ℕ) × (a < n) × (t a ≡ true))
unfolding any
any_decides n t = Decides-below_or t (λ a. t a ≡ true) (λ k. any k t) (λ k. (λ h. h, λ h. h)) refl (λ _. refl) n

any_same : (n : ℕ) (t u : ℕ → Bool) → ((a : ℕ) → a < n → t a ≡ u a) → any n t ≡ any n u
unfolding any
any_same zero t u h = refl
any_same (suc n) t u h = ap₂ ◌||◌ (h n (omega arith)) (any_same n t u (λ a k. h a (omega arith)))

-- c for each step of the path that passes
unfoldable pub along : (ℕ → Bool) → ℕ → List ℕ → ℕ
along t c [] = 0
along t c (b ∷ s) = cond (t b) c 0 + along t c s

pub along_none : (t : ℕ → Bool) (c : ℕ) (s : List ℕ) → some t s ≡ false → along t c s ≡ 0
unfolding along some
along_none t c [] h = refl
along_none t c (b ∷ s) h =
    let k = or_parts (t b) (some t s) h in
    let e : cond {A = ℕ} (t b) c 0 ≡ 0 = cond-false (t b) c 0 k.0 in
    let r : along t c s ≡ 0 = along_none t c s k.1 in
    omega arith

-- on a path that is untangled: after a keen transfer and a step that is not live nothing is keen, and the end is on time
abbrev pub Untangled : Yard → ℕ → List ℕ → Type 0
Untangled g x s = (u v w : List ℕ) (a b : ℕ) → s ≡ u ++ (a ∷ (v ++ (b ∷ w))) → keen g a ≡ true → live g b ≡ false → (some (keen g) w ≡ false) × (worst g (ends g x s) ≡ 0)

module _ (g : Yard) (so : Sound g) (n : Apart g) (z root : ℕ → Bool) where
  abbrev kept : ℕ → Bool
  kept a = live g a && binds g z a

  abbrev by : (ℕ → Bool) → ℕ → ℕ → Bool
  by r x a = eqb (head g a) x && (kept a && r (tail g a))

  abbrev step : (ℕ → Bool) → ℕ → Bool
  step r x = root x || any (activity_count g) (by r x)

  -- x is a root, or a kept activity leads to it from what is reached
  pub reach : ℕ → Bool
  reach x = turns false step (suc x) x

  reach_is : (x : ℕ) → reach x ≡ (root x || any (activity_count g) (by reach x))
  unfolding reach
  reach_is = turns_is false step (λ x. x) (λ f h x s. ap (◌||◌ (root x)) (any_same (activity_count g) (by f x) (by h x) (λ a w. each f h x s a w (cases_Bool (eqb (head g a) x)))))
    where
      each : (f h : ℕ → Bool) (x : ℕ) → ((i : ℕ) → i < x → f i ≡ h i) → (a : ℕ) → a < activity_count g → (eqb (head g a) x ≡ true) ⊎ (eqb (head g a) x ≡ false) → by f x a ≡ by h x a
      each f h x s a w (inl t) =
          let b = so.before a w in
          let e = eqb-true (head g a) x t in
          ap (λ r. eqb (head g a) x && (kept a && r)) (s (tail g a) (omega arith))
      each f h x s a w (inr t) = and_left (eqb (head g a) x) _ t ∙ sym (and_left (eqb (head g a) x) _ t)

  comes : (x : ℕ) → reach x ≡ true → (root x ≡ true) ⊎ ((a : ℕ) × (a < activity_count g) × (by reach x a ≡ true))
  comes x h = go (or_cases (root x) (any (activity_count g) (by reach x)) (sym (reach_is x) ∙ h))
    where
      go : (root x ≡ true) ⊎ (any (activity_count g) (by reach x) ≡ true) → (root x ≡ true) ⊎ ((a : ℕ) × (a < activity_count g) × (by reach x a ≡ true))
      go (inl k) = inl k
      go (inr k) = inr ((any_decides (activity_count g) (by reach x)).0 k)

  -- z lets a keen transfer go whose tail is reached
  abbrev pub parted : ℕ → Bool
  parted a = keen g a && (not (z a) && reach (tail g a))

  module _
      (Past : ℕ → Type 0)
      (past : (a : ℕ) → a < activity_count g → (root (tail g a) ≡ true) ⊎ Past (tail g a) → Past (head g a))
      (clear : (a : ℕ) → a < activity_count g → live g a ≡ true → Past (head g a) → root (head g a) ≡ false)
      (early : (x : ℕ) → Past x → worst g x ≡ 0 → root x ≡ false)
    where
      placed : (x : ℕ) → reach x ≡ true → (root x ≡ true) ⊎ Past x
      placed = by_below (λ x. reach x ≡ true → (root x ≡ true) ⊎ Past x) (λ x below h. go x below (comes x h))
        where
          go : (x : ℕ) → ((k : ℕ) → k < x → reach k ≡ true → (root k ≡ true) ⊎ Past k) → (root x ≡ true) ⊎ ((a : ℕ) × (a < activity_count g) × (by reach x a ≡ true)) → (root x ≡ true) ⊎ Past x
          go x below (inl k) = inl k
          go x below (inr r) =
              let c = and_parts (eqb (head g r.0) x) (kept r.0 && reach (tail g r.0)) r.2 in
              let d = and_parts (kept r.0) (reach (tail g r.0)) c.1 in
              let e = eqb-true (head g r.0) x c.0 in
              let b = so.before r.0 r.1 in
              inr (subst Past e (past r.0 r.1 (below (tail g r.0) (omega arith) d.1)))

      record Source (x a : ℕ) : Type 0 where
        to : head g a ≡ x
        alive : live g a ≡ true
        running : binds g z a ≡ true
        reached : reach (tail g a) ≡ true

      source : (x a : ℕ) → by reach x a ≡ true → Source x a
      source x a h =
          let c = and_parts (eqb (head g a) x) (kept a && reach (tail g a)) h in
          let d = and_parts (kept a) (reach (tail g a)) c.1 in
          let k = and_parts (live g a) (binds g z a) d.0 in
          record { to = eqb-true (head g a) x c.0; alive = k.0; running = k.1; reached = d.1 }

      -- each reached event has one source
      pub one_source : {A : Type 0} {p : Tolls A} (q : LawfulTolls p) (x : ℕ) (c : A) → given p (reach x) c ≡ p.plus (given p (root x) c) (total p (activity_count g) (λ a. given p (by reach x a) c))
      one_source {A} {p} q x c = go (found (activity_count g) (by reach x))
        where
          term : ℕ → A
          term a = given p (by reach x a) c

          other : (a : ℕ) → a < activity_count g → Source x a → (i : ℕ) → i < activity_count g → (i ≡ a → ⊥) → (by reach x i ≡ true) ⊎ (by reach x i ≡ false) → term i ≡ p.nought
          other a v s i w ne (inl h) = let t = source x i h in absurd (ne (n.one i a w v t.alive s.alive (t.to ∙ sym s.to)))
          other a v s i w ne (inr h) = cond-false (by reach x i) c p.nought h

          go : ((a : ℕ) × (a < activity_count g) × (by reach x a ≡ true)) ⊎ ((a : ℕ) → a < activity_count g → by reach x a ≡ false) → given p (reach x) c ≡ p.plus (given p (root x) c) (total p (activity_count g) term)
          go (inr none) =
              let e : any (activity_count g) (by reach x) ≡ false = no_any none in
              ap (λ b. given p b c) (reach_is x ∙ ap (◌||◌ (root x)) e ∙ or_false (root x))
              ∙ sym (ap (p.plus (given p (root x) c)) (sum_none q (activity_count g) term (λ a w. cond-false (by reach x a) c p.nought (none a w))) ∙ right q _)
            where
              or_false : (b : Bool) → (b || false) ≡ b
              or_false true = refl
              or_false false = refl

              no_any : ((a : ℕ) → a < activity_count g → by reach x a ≡ false) → any (activity_count g) (by reach x) ≡ false
              no_any h = no (cases_Bool (any (activity_count g) (by reach x)))
                where
                  no : (any (activity_count g) (by reach x) ≡ true) ⊎ (any (activity_count g) (by reach x) ≡ false) → any (activity_count g) (by reach x) ≡ false
                  no (inl t) = let r = (any_decides (activity_count g) (by reach x)).0 t in absurd (both_ways _ (h r.0 r.1) r.2)
                  no (inr t) = t
          go (inl r) =
              let a : ℕ = r.0 in
              let s = source x a r.2 in
              let is : reach x ≡ true = reach_is x ∙ or_right (root x) _ ((any_decides (activity_count g) (by reach x)).1 r) in
              let no : root x ≡ false = ap root (sym s.to) ∙ clear a r.1 s.alive (past a r.1 (placed (tail g a) s.reached)) in
              let u : total p (activity_count g) term ≡ term a = sum_one q (activity_count g) term a r.1 (λ i w ne. other a r.1 s i w ne (cases_Bool (by reach x i))) in
              cond-true (reach x) c p.nought is ∙ sym (ap₂ p.plus (cond-false (root x) c p.nought no) (u ∙ cond-true (by reach x a) c p.nought r.2) ∙ q.neutral c)

      -- a live activity that does not run, or whose tail is not reached
      blocked : (a : ℕ) → a < activity_count g → live g a ≡ true → Past (head g a) → (binds g z a ≡ false) ⊎ (reach (tail g a) ≡ false) → reach (head g a) ≡ false
      blocked a w l pa h = go (cases_Bool (reach (head g a)))
        where
          no : Source (head g a) a → (binds g z a ≡ false) ⊎ (reach (tail g a) ≡ false) → ⊥
          no s (inl k) = both_ways (binds g z a) k s.running
          no s (inr k) = both_ways (reach (tail g a)) k s.reached

          from : (root (head g a) ≡ true) ⊎ ((b : ℕ) × (b < activity_count g) × (by reach (head g a) b ≡ true)) → ⊥
          from (inl k) = both_ways (root (head g a)) (clear a w l pa) k
          from (inr r) =
              let s = source (head g a) r.0 r.2 in
              let e : r.0 ≡ a = n.one r.0 a r.1 w s.alive l s.to in
              no (subst (λ b. Source (head g a) b) e s) h

          go : (reach (head g a) ≡ true) ⊎ (reach (head g a) ≡ false) → reach (head g a) ≡ false
          go (inl k) = absurd (from (comes (head g a) k))
          go (inr k) = k

      -- what is reached past the roots is late
      on_time : (x : ℕ) → Past x → worst g x ≡ 0 → reach x ≡ false
      on_time x pa m = go (cases_Bool (reach x))
        where
          live_late : (a : ℕ) → a < activity_count g → live g a ≡ true → 0 < worst g (head g a)
          live_late a w l =
              let k : binds g all_wait a ≡ true → handed g a (worst g (tail g a)) ≤ worst g (head g a) = (worst_lawful g so).next a w in
              grind (arith, nat_tests)

          from : (root x ≡ true) ⊎ ((b : ℕ) × (b < activity_count g) × (by reach x b ≡ true)) → ⊥
          from (inl k) = both_ways (root x) (early x pa m) k
          from (inr r) =
              let s = source x r.0 r.2 in
              let k = live_late r.0 r.1 s.alive in
              let e : worst g (head g r.0) ≡ worst g x = ap (worst g) s.to in
              omega arith

          go : (reach x ≡ true) ⊎ (reach x ≡ false) → reach x ≡ false
          go (inl k) = absurd (from (comes x k))
          go (inr k) = k

      past_chain : (x : ℕ) (s : List ℕ) → Chain g x s → Past x → Past (ends g x s)
      unfolding ends
      past_chain x [] c h = h
      past_chain x (b ∷ s) c h = past_chain (head g b) s c.2 (past b c.0 (inr (subst Past (sym c.1) h)))

      parted_keen : (a : ℕ) → keen g a ≡ false → parted a ≡ false
      parted_keen a k = and_left (keen g a) (not (z a) && reach (tail g a)) k

      -- below a parted transfer nothing is parted, and the end is not reached
      after : (x c : ℕ) (s : List ℕ) → Chain g x s → Past x → reach x ≡ false →
          ((v w : List ℕ) (b : ℕ) → s ≡ v ++ (b ∷ w) → live g b ≡ false → (some (keen g) w ≡ false) × (worst g (ends g x s) ≡ 0)) →
          (along parted c s ≡ 0) × (reach (ends g x s) ≡ false)
      unfolding along ends
      after x c [] ch pa r t = (refl, r)
      after x c (b ∷ s) ch pa r t = go (cases_Bool (live g b)) (λ r'. after (head g b) c s ch.2 pb r' (λ v w d e. t (b ∷ v) w d (ap (◌∷◌ b) e)))
        where
          pb : Past (head g b)
          pb = past b ch.0 (inr (subst Past (sym ch.1) pa))

          tail_out : reach (tail g b) ≡ false
          tail_out = ap reach ch.1 ∙ r

          not_parted : cond {A = ℕ} (parted b) c 0 ≡ 0
          not_parted = cond-false (parted b) c 0 (and_right (keen g b) _ (and_right (not (z b)) _ tail_out))

          go : (live g b ≡ true) ⊎ (live g b ≡ false) → (reach (head g b) ≡ false → (along parted c s ≡ 0) × (reach (ends g (head g b) s) ≡ false)) →
              (cond (parted b) c 0 + along parted c s ≡ 0) × (reach (ends g (head g b) s) ≡ false)
          go (inl l) f =
              let k = f (blocked b ch.0 l pb (inr tail_out)) in
              let e = k.0 in
              let d = not_parted in
              (omega arith, k.1)
          go (inr l) f =
              let k = t [] s b refl l in
              let e : along parted c s ≡ 0 = along_none parted c s (some_less parted (keen g) s parted_keen k.0) in
              let d = not_parted in
              (omega arith, on_time (ends g (head g b) s) (past_chain (head g b) s ch.2 pb) k.1)

      -- a lot is parted at worst once, and then its end is not reached
      pub once : (x c : ℕ) (s : List ℕ) → Chain g x s → Untangled g x s → along parted c s + cond (reach (ends g x s)) c 0 ≤ c
      unfolding along ends
      once x c [] ch t = small (reach x)
        where
          small : (b : Bool) → 0 + cond b c 0 ≤ c
          small true = omega arith
          small false = omega arith
      once x c (b ∷ s) ch t = go (cases_Bool (parted b)) (once (head g b) c s ch.2 (λ u v w a d e. t (b ∷ u) v w a d (ap (◌∷◌ b) e)))
        where
          go : (parted b ≡ true) ⊎ (parted b ≡ false) → along parted c s + cond (reach (ends g (head g b) s)) c 0 ≤ c → (cond (parted b) c 0 + along parted c s) + cond (reach (ends g (head g b) s)) c 0 ≤ c
          go (inr k) r = let e : cond {A = ℕ} (parted b) c 0 ≡ 0 = cond-false (parted b) c 0 k in omega arith
          go (inl k) r =
              let ke = and_parts (keen g b) (not (z b) && reach (tail g b)) k in
              let rt = and_parts (not (z b)) (reach (tail g b)) ke.1 in
              let li = and_parts (live g b) (unmarked g b) ke.0 in
              let pb : Past (head g b) = past b ch.0 (placed (tail g b) rt.1) in
              let gone : binds g z b ≡ false = stops (struck g b) (unmarked g b) (z b) li.1 (not-true (z b) rt.0) in
              let f = after (head g b) c s ch.2 pb (blocked b ch.0 li.0 pb (inl gone)) (λ v w d e. t [] v w b d (ap (◌∷◌ b) e) ke.0) in
              let e : cond {A = ℕ} (parted b) c 0 ≡ c = cond-true (parted b) c 0 k in
              let d : cond {A = ℕ} (reach (ends g (head g b) s)) c 0 ≡ 0 = cond-false (reach (ends g (head g b) s)) c 0 f.1 in
              let a = f.0 in
              omega arith
            where
              stops : (s l w : Bool) → l ≡ true → w ≡ false → cond s false (cond l w true) ≡ false
              stops s l w h k = grind arith
