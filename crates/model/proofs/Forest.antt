-- Where delays never meet, a least lateness is at each event none or the most.
use Rattle.std.proofs.Common.{◌≡◌, ℕ, ◌<◌, ◌≤◌, max, true, false, ◌&&◌, eqb, ◌⊎◌, sym, ap, ◌∙◌, inl, inr, arith}
use Rattle.std.proofs.lemmas.Bool.{cases_Bool, eqb-true, and_parts}
use Rattle.std.proofs.lemmas.Bool.Decides.{nat_tests}
use Rattle.model.proofs.Ground.{Sound}
use Rattle.model.specs.Finite.{top}
use Rattle.model.specs.Lateness.{Choice, Lawful, all_wait, binds, brings, least, worst}
use Rattle.model.specs.Meeting.{Apart, live}
use Rattle.model.specs.Yard.{Yard, activity_count, handed, head, noted, tail}
use Rattle.model.proofs.Tops.{top_le, le_top, by_below, found}
use Rattle.model.proofs.Lateness.{least_is, least_lawful, least_least, brought}

module _ (g : Yard) (s : Sound g) where
  pub worst_lawful : Lawful g all_wait (worst g)
  unfolding worst
  worst_lawful = least_lawful g s all_wait

  pub worst_is : (e : ℕ) → worst g e ≡ max (noted g e) (top (activity_count g) (brings g all_wait (worst g) e))
  unfolding worst
  worst_is = least_is g s all_wait

  module _ (z : Choice) where
    binds_all : (a : ℕ) → binds g z a ≡ true → binds g all_wait a ≡ true
    binds_all a r = grind (arith, nat_tests)

    pub below_worst : (e : ℕ) → least g z e ≤ worst g e
    below_worst = least_least g s z (worst g) (record { own = worst_lawful.own; next = λ a w r. worst_lawful.next a w (binds_all a r) })

    -- what is not live brings nothing
    pub dead_brings : (e a : ℕ) → live g a ≡ false → brings g z (least g z) e a ≡ 0
    dead_brings e a d =
        let m = s.mono a (least g z (tail g a)) (worst g (tail g a)) (below_worst (tail g a)) in
        grind (arith, nat_tests)

    module _ (n : Apart g) where
      -- at the head of a live activity the lateness is what that one brings
      pub by_live : (a : ℕ) → a < activity_count g → live g a ≡ true → least g z (head g a) ≡ brings g z (least g z) (head g a) a
      by_live a w l =
          let q = least_is g s z (head g a) in
          let d = n.fresh a w l in
          let t = le_top (activity_count g) (brings g z (least g z) (head g a)) a w in
          let u = top_le (activity_count g) (brings g z (least g z) (head g a)) (brings g z (least g z) (head g a) a) (λ b v. each b v (cases_Bool (live g b)) (cases_Bool (eqb (head g b) (head g a)))) in
          omega arith
        where
          each : (b : ℕ) → b < activity_count g → (live g b ≡ true) ⊎ (live g b ≡ false) → (eqb (head g b) (head g a) ≡ true) ⊎ (eqb (head g b) (head g a) ≡ false) → brings g z (least g z) (head g a) b ≤ brings g z (least g z) (head g a) a
          each b v (inr dead) t = let k = dead_brings (head g a) b dead in omega arith
          each b v (inl k) (inl t) = let p = n.one b a v w k l (eqb-true (head g b) (head g a) t) in rw p (omega arith)
          each b v (inl k) (inr t) = grind (arith, nat_tests)

      -- with no live activity into it an event has its own delay
      pub by_own : (e : ℕ) → ((a : ℕ) → a < activity_count g → (eqb (head g a) e && live g a) ≡ false) → least g z e ≡ noted g e
      by_own e h =
          let q = least_is g s z e in
          let u = top_le (activity_count g) (brings g z (least g z) e) 0 (λ b v. each b v (cases_Bool (live g b))) in
          omega arith
        where
          each : (b : ℕ) → b < activity_count g → (live g b ≡ true) ⊎ (live g b ≡ false) → brings g z (least g z) e b ≤ 0
          each b v (inr dead) = let k = dead_brings e b dead in omega arith
          each b v (inl k) = let p = h b v in grind (arith, nat_tests)

      -- a live activity that does not run, or whose tail is on time, leaves its head on time
      pub zero_below : (a : ℕ) → a < activity_count g → live g a ≡ true → (binds g z a ≡ false) ⊎ (least g z (tail g a) ≡ 0) → least g z (head g a) ≡ 0
      zero_below a w l (inl r) = let q = by_live a w l in grind (arith, nat_tests)
      zero_below a w l (inr r) =
          let q = by_live a w l in
          let k : handed g a (least g z (tail g a)) ≡ 0 = rw r (s.still a) in
          grind (arith, nat_tests)

      -- a live activity that binds carries all of it on
      pub carried : (a : ℕ) → a < activity_count g → live g a ≡ true → binds g z a ≡ true → least g z (head g a) ≡ handed g a (least g z (tail g a))
      carried a w l r = by_live a w l ∙ brought g s z (least g z) a r

  module _ (n : Apart g) where
    live_binds : (a : ℕ) → live g a ≡ true → binds g all_wait a ≡ true
    live_binds a l = grind (arith, nat_tests)

    pub worst_carried : (a : ℕ) → a < activity_count g → live g a ≡ true → worst g (head g a) ≡ handed g a (worst g (tail g a))
    unfolding worst
    worst_carried a w l = carried all_wait n a w l (live_binds a l)

    pub worst_own : (e : ℕ) → ((a : ℕ) → a < activity_count g → (eqb (head g a) e && live g a) ≡ false) → worst g e ≡ noted g e
    unfolding worst
    worst_own = by_own all_wait n

    -- the least lateness is at each event none, or the worst
    pub two_ways : (z : Choice) (e : ℕ) → (least g z e ≡ 0) ⊎ (least g z e ≡ worst g e)
    two_ways z = by_below (λ e. (least g z e ≡ 0) ⊎ (least g z e ≡ worst g e)) (λ e below. go e below (found (activity_count g) (λ a. eqb (head g a) e && live g a)))
      where
        run : (e a : ℕ) → a < activity_count g → head g a ≡ e → live g a ≡ true → (binds g z a ≡ true) ⊎ (binds g z a ≡ false) → (least g z (tail g a) ≡ 0) ⊎ (least g z (tail g a) ≡ worst g (tail g a)) → (least g z e ≡ 0) ⊎ (least g z e ≡ worst g e)
        run e a w h l (inr r) t = inl (ap (least g z) (sym h) ∙ zero_below z n a w l (inl r))
        run e a w h l (inl r) (inl t) = inl (ap (least g z) (sym h) ∙ zero_below z n a w l (inr t))
        run e a w h l (inl r) (inr t) = inr (ap (least g z) (sym h) ∙ carried z n a w l r ∙ ap (handed g a) t ∙ sym (worst_carried a w l) ∙ ap (worst g) h)

        go : (e : ℕ) → ((k : ℕ) → k < e → (least g z k ≡ 0) ⊎ (least g z k ≡ worst g k)) → ((a : ℕ) × (a < activity_count g) × ((eqb (head g a) e && live g a) ≡ true)) ⊎ ((a : ℕ) → a < activity_count g → (eqb (head g a) e && live g a) ≡ false) → (least g z e ≡ 0) ⊎ (least g z e ≡ worst g e)
        go e below (inr none) = inr (by_own z n e none ∙ sym (worst_own e none))
        go e below (inl r) =
            let b = s.before r.0 r.1 in
            let p = and_parts (eqb (head g r.0) e) (live g r.0) r.2 in
            let h = eqb-true (head g r.0) e p.0 in
            run e r.0 r.1 h p.1 (cases_Bool (binds g z r.0)) (below (tail g r.0) (omega arith))
