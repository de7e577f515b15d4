-- What one lot pays, by lateness at its end and by cuts on its path.
use Rattle.std.proofs.Common.{◌≡◌, ℕ, ◌<◌, ◌≤◌, Bool, true, false, cond, not, ◌&&◌, ◌||◌, eqb, ltb, ◌⊎◌, List, ◌∷◌, ◌++◌, sym, refl, ap, ◌∙◌, subst, ap₂, inl, inr, arith}
use Rattle.std.proofs.lemmas.Bool.{cases_Bool, ne_eqb, eq-eqb, or_from, or_left, or_right, and_left, and_right, and_parts, cond-true, cond-false, not-true, not-false, le-ltb}
use Rattle.std.proofs.lemmas.Bool.Decides.{nat_tests}
use Rattle.model.proofs.Ground.{Chain, Orderly, Sound, keen, Le, self}
use Rattle.model.specs.Finite.{some}
use Rattle.model.specs.Lateness.{Choice, Lawful, all_wait, binds, least, worst}
use Rattle.model.specs.Lots.{end, ends, lot_count, path, start, whole}
use Rattle.model.specs.Meeting.{Apart, live}
use Rattle.model.specs.Tolls.{Fares, Planned, bill, given, miss_bill, pay}
use Rattle.model.specs.Yard.{Yard, activity_count, head, struck, tail, unmarked}
use Rattle.sums.specs.Totals.{total}
use Rattle.tariff.specs.Tolls.{LawfulTolls, Tolls}
use Rattle.model.proofs.Lateness.{least_least}
use Rattle.model.proofs.Forest.{zero_below, below_worst, two_ways}
use Rattle.model.proofs.Sums.{right, sum_none, sum_one}
use Rattle.model.proofs.Paths.{some_less, some_on, not_there, some_append, Split, split, ends_append, chain_after, cut, after_cut}

abbrev pub has : ℕ → List ℕ → Bool
has a s = some (λ b. eqb b a) s

pub some_mid : (t : ℕ → Bool) (u w : List ℕ) (a : ℕ) → t a ≡ true → some t (u ++ (a ∷ w)) ≡ true
unfolding some
some_mid t u w a h = some_append t u (a ∷ w) ∙ or_right (some t u) (t a || some t w) (or_left (t a) (some t w) h)

pub has_not : (t : ℕ → Bool) (u w : List ℕ) (a i : ℕ) → some t u ≡ false → some t w ≡ false → t i ≡ true → (i ≡ a → ⊥) → has i (u ++ (a ∷ w)) ≡ false
unfolding some
has_not t u w a i h k j ne =
    some_append (λ b. eqb b i) u (a ∷ w)
    ∙ or_from (has i u) (eqb a i || has i w) (not_there t i u h j) (or_from (eqb a i) (has i w) (ne_eqb a i (λ e. ne (sym e))) (not_there t i w k j))

module _ (g : Yard) {A : Type 0} (p : Tolls A) (l : Fares A) (bound : ℕ) (so : Sound g) (n : Apart g) (q : LawfulTolls p) (o : Orderly g p l bound) where
  pub worst_bounded : (e : ℕ) → worst g e ≤ bound
  unfolding worst
  worst_bounded = least_least g so all_wait (λ e. bound) (record { own = λ e w. o.bounded e; next = λ a w r. so.under a bound })

  module _ (z : Choice) where
    abbrev cuts : ℕ → A
    cuts i = total p (activity_count g) (λ a. given p (cut g so n z a && has a (path g i)) (l.miss i))

    abbrev ending : ℕ → A
    ending i = given p (ltb 0 (least g z (end g i))) (l.late i (worst g (end g i)))

    abbrev pub share : ℕ → A
    share i = cond (whole g i) (p.plus (ending i) (cuts i)) (l.miss i)

    abbrev is_gone : ℕ → Bool
    is_gone a = not (binds g z a)

    no_cuts : (i : ℕ) → some (cut g so n z) (path g i) ≡ false → cuts i ≡ p.nought
    no_cuts i h = sum_none q (activity_count g) _ (λ a w. ap (λ b. given p b (l.miss i)) (each a (cases_Bool (cut g so n z a))))
      where
        each : (a : ℕ) → (cut g so n z a ≡ true) ⊎ (cut g so n z a ≡ false) → (cut g so n z a && has a (path g i)) ≡ false
        each a (inl c) = and_right (cut g so n z a) (has a (path g i)) (not_there (cut g so n z) a (path g i) h c)
        each a (inr c) = and_left (cut g so n z a) (has a (path g i)) c

    module _ (i : ℕ) (w : i < lot_count g) (wh : whole g i ≡ true) (c : Split (cut g so n z) (path g i)) where
      abbrev before_it : ℕ
      before_it = ends g (start g i) c.front

      chain_at : Chain g before_it (c.at ∷ c.back)
      chain_at = chain_after g (start g i) c.front (c.at ∷ c.back) (subst (λ s. Chain g (start g i) s) c.is (o.chain i w))

      end_at : end g i ≡ ends g (head g c.at) c.back
      unfolding ends
      end_at = ap (ends g (start g i)) c.is ∙ ends_append g (start g i) c.front (c.at ∷ c.back)

      keen_at : keen g c.at ≡ true
      keen_at = (and_parts (keen g c.at) (not (z c.at) && ltb 0 (least g z (tail g c.at))) c.passes).0

      is_gone_at : binds g z c.at ≡ false
      is_gone_at = let k = keen_at in let h = c.passes in grind (arith, nat_tests)

      rest : (some (cut g so n z) c.back ≡ false) × (least g z (ends g (head g c.at) c.back) ≡ 0)
      rest = after_cut g so n z (head g c.at) c.back chain_at.2 head_on_time tidy
        where
          head_on_time : least g z (head g c.at) ≡ 0
          head_on_time = zero_below g so z n c.at chain_at.0 (and_parts (live g c.at) (unmarked g c.at) keen_at).0 (inl is_gone_at)

          tidy : (v x : List ℕ) (b : ℕ) → c.back ≡ v ++ (b ∷ x) → live g b ≡ false → (some (keen g) x ≡ false) × (worst g (ends g (head g c.at) c.back) ≡ 0)
          tidy v x b e d =
              let u = o.untangled i w wh c.front v x c.at b (c.is ∙ ap (λ s. c.front ++ (c.at ∷ s)) e) keen_at d in
              (u.0, ap (worst g) (sym end_at) ∙ u.1)

      one_cut : cuts i ≡ l.miss i
      one_cut =
          sum_one q (activity_count g) (λ a. given p (cut g so n z a && has a (path g i)) (l.miss i)) c.at chain_at.0 (λ a k ne. ap (λ b. given p b (l.miss i)) (each a ne (cases_Bool (cut g so n z a))))
          ∙ ap (λ b. given p b (l.miss i)) both
        where
          each : (a : ℕ) → (a ≡ c.at → ⊥) → (cut g so n z a ≡ true) ⊎ (cut g so n z a ≡ false) → (cut g so n z a && has a (path g i)) ≡ false
          each a ne (inl k) =
              and_right (cut g so n z a) (has a (path g i))
              (ap (has a) c.is ∙ has_not (cut g so n z) c.front c.back c.at a c.none_before rest.0 k ne)
          each a ne (inr k) = and_left (cut g so n z a) (has a (path g i)) k

          both : (cut g so n z c.at && has c.at (path g i)) ≡ true
          both = ap₂ ◌&&◌ c.passes (ap (has c.at) c.is ∙ some_mid (λ b. eqb b c.at) c.front c.back c.at (eq-eqb c.at c.at refl))

      cut_share : share i ≡ l.miss i
      cut_share =
          let e : ltb 0 (least g z (end g i)) ≡ false = le-ltb 0 (least g z (end g i)) (let k = ap (least g z) end_at in let r = rest.1 in omega arith) in
          cond-true (whole g i) _ _ wh ∙ ap₂ p.plus (ap (λ b. given p b (l.late i (worst g (end g i)))) e) one_cut ∙ q.neutral (l.miss i)

      cut_pay : (y : ℕ → ℕ) → pay g p l z y i ≡ l.miss i
      cut_pay y = cond-true _ _ _ (ap (some is_gone) c.is ∙ some_mid is_gone c.front c.back c.at (ap not is_gone_at))

    ending_is : (i : ℕ) → i < lot_count g → ending i ≡ l.late i (least g z (end g i))
    ending_is i w = go (two_ways g so n z (end g i)) (cases_Bool (ltb 0 (least g z (end g i))))
      where
        go : (least g z (end g i) ≡ 0) ⊎ (least g z (end g i) ≡ worst g (end g i)) → (ltb 0 (least g z (end g i)) ≡ true) ⊎ (ltb 0 (least g z (end g i)) ≡ false) → ending i ≡ l.late i (least g z (end g i))
        go t (inr k) =
            let u : least g z (end g i) ≡ 0 = grind (arith, nat_tests) in
            cond-false _ _ _ k ∙ sym (o.free i w) ∙ ap (l.late i) (sym u)
        go (inl t) (inl k) = absurd (grind (arith, nat_tests))
        go (inr t) (inl k) = cond-true _ _ _ k ∙ ap (l.late i) (sym t)

    plain_share : (i : ℕ) → i < lot_count g → whole g i ≡ true → some (cut g so n z) (path g i) ≡ false → share i ≡ l.late i (least g z (end g i))
    plain_share i w wh h = cond-true (whole g i) _ _ wh ∙ ap (p.plus (ending i)) (no_cuts i h) ∙ right q (ending i) ∙ ending_is i w

    struck_pay : (y : ℕ → ℕ) (i : ℕ) → whole g i ≡ false → pay g p l z y i ≡ l.miss i
    struck_pay y i wh = cond-true _ _ _ (go (cases_Bool (some is_gone (path g i))))
      where
        one : (a : ℕ) → is_gone a ≡ false → struck g a ≡ false
        one a h = grind (arith, nat_tests)

        go : (some is_gone (path g i) ≡ true) ⊎ (some is_gone (path g i) ≡ false) → some is_gone (path g i) ≡ true
        go (inl h) = h
        go (inr h) =
            let k = some_less (struck g) is_gone (path g i) one h in
            let j = not-false (some (struck g) (path g i)) wh in
            absurd (grind (arith, nat_tests))

    -- under any choice, and a lateness lawful for it, a lot pays its share at least
    pub share_below : (y : ℕ → ℕ) → Lawful g z y → (i : ℕ) → i < lot_count g → Le p (share i) (pay g p l z y i)
    share_below y ly i w = go (cases_Bool (whole g i)) (split (cut g so n z) (path g i)) (cases_Bool (some is_gone (path g i)))
      where
        same : {a b c : A} → a ≡ c → b ≡ c → Le p a b
        same {a} e f = subst (λ x. Le p a x) (e ∙ sym f) (self q a)

        between : {a b c d : A} → a ≡ c → b ≡ d → Le p c d → Le p a b
        between e f h = rw (e, f) h

        go : (whole g i ≡ true) ⊎ (whole g i ≡ false) → (some (cut g so n z) (path g i) ≡ false) ⊎ Split (cut g so n z) (path g i) → (some is_gone (path g i) ≡ true) ⊎ (some is_gone (path g i) ≡ false) → Le p (share i) (pay g p l z y i)
        go (inr wh) t u = same (cond-false (whole g i) _ _ wh) (struck_pay y i wh)
        go (inl wh) (inr c) u = same (cut_share i w wh c) (cut_pay i w wh c y)
        go (inl wh) (inl h) (inl r) =
            between (plain_share i w wh h) (cond-true _ _ _ r)
            (o.covers i (least g z (end g i)) w (let a = below_worst g so z (end g i) in let b = worst_bounded (end g i) in omega arith))
        go (inl wh) (inl h) (inr r) =
            between (plain_share i w wh h) (cond-false _ _ _ r)
            (o.dearer i (least g z (end g i)) (y (end g i)) w (least_least g so z y ly (end g i)))

    -- under the plan it pays no more
    pub share_plan : Planned g p l z → (i : ℕ) → i < lot_count g → pay g p l z (least g z) i ≡ share i
    unfolding Planned
    share_plan pl i w = go (cases_Bool (whole g i)) (split (cut g so n z) (path g i))
      where
        one : (a : ℕ) → a < activity_count g → struck g a ≡ false → cut g so n z a ≡ false → is_gone a ≡ false
        one a v h k = let t : unmarked g a ≡ true → z a ≡ not (live g a && (ltb 0 (least g z (tail g a)) && p.at_most (miss_bill g p l a) (bill g p l (head g a)))) = pl a v in grind (arith, nat_tests)

        go : (whole g i ≡ true) ⊎ (whole g i ≡ false) → (some (cut g so n z) (path g i) ≡ false) ⊎ Split (cut g so n z) (path g i) → pay g p l z (least g z) i ≡ share i
        go (inr wh) t = struck_pay (least g z) i wh ∙ sym (cond-false (whole g i) _ _ wh)
        go (inl wh) (inr c) = cut_pay i w wh c (least g z) ∙ sym (cut_share i w wh c)
        go (inl wh) (inl h) =
            cond-false _ _ _ (some_on g is_gone (struck g) (cut g so n z) (start g i) (path g i) (o.chain i w) one (not-true (some (struck g) (path g i)) wh) h)
            ∙ sym (plain_share i w wh h)
