-- The bills are below what any choice makes due, and the plan makes no more due.
use Rattle.std.proofs.Common.{◌≡◌, ℕ, zero, suc, ◌-◌, ◌<◌, Bool, true, false, not, ◌&&◌, eqb, ltb, ◌⊎◌, sym, ap, ◌∙◌, ap₂, inl, inr, arith}
use Rattle.std.proofs.lemmas.Bool.{cases_Bool, eqb-true, and_parts, le-ltb}
use Rattle.std.proofs.lemmas.Bool.Decides.{nat_tests}
use Rattle.model.proofs.Ground.{Sound, keen, Le, self}
use Rattle.model.specs.Finite.{turns}
use Rattle.model.specs.Lateness.{Choice, binds, least, worst}
use Rattle.model.specs.Meeting.{Apart, live}
use Rattle.model.specs.Tolls.{Fares, Planned, bill, bill_step, branch, given, late_lots, miss_bill}
use Rattle.model.specs.Yard.{Yard, activity_count, event_count, handed, head, noted, tail, unmarked}
use Rattle.sums.specs.Totals.{total}
use Rattle.tariff.specs.Tolls.{LawfulTolls, Tolls}
use Rattle.model.proofs.Forest.{zero_below, two_ways, carried, by_own}
use Rattle.model.proofs.Tops.{found}
use Rattle.model.proofs.Turns.{turns_is}
use Rattle.model.proofs.Sums.{right, both_le, sum_same, sum_le, sum_none, sum_one, sum_plus}
use Rattle.model.proofs.Flow.{flow}

module _ (g : Yard) (so : Sound g) where
  -- what lies beyond an activity is nearer the end
  pub nearer : (a e : ℕ) → a < activity_count g → tail g a ≡ e → event_count g - head g a < event_count g - e
  nearer a e w t = let b = so.before a w in let c = so.within a w in omega arith

  module _ {A : Type 0} {p : Tolls A} (q : LawfulTolls p) where
    -- a sum over the activities that leave e looks only past e
    pub sum_near : (t : ℕ → Bool) (k : ℕ → A → A) (f h : ℕ → A) (e : ℕ) → ((i : ℕ) → event_count g - i < event_count g - e → f i ≡ h i) →
        total p (activity_count g) (λ a. given p (eqb (tail g a) e && t a) (k a (f (head g a)))) ≡ total p (activity_count g) (λ a. given p (eqb (tail g a) e && t a) (k a (h (head g a))))
    sum_near t k f h e s = sum_same q (activity_count g) _ _ (λ a w. each a w (cases_Bool (eqb (tail g a) e)))
      where
        each : (a : ℕ) → a < activity_count g → (eqb (tail g a) e ≡ true) ⊎ (eqb (tail g a) e ≡ false) → given p (eqb (tail g a) e && t a) (k a (f (head g a))) ≡ given p (eqb (tail g a) e && t a) (k a (h (head g a)))
        each a w (inl c) = ap (λ x. given p (eqb (tail g a) e && t a) (k a x)) (s (head g a) (nearer a e w (eqb-true (tail g a) e c)))
        each a w (inr c) = ap (λ b. given p (b && t a) (k a (f (head g a)))) c ∙ sym (ap (λ b. given p (b && t a) (k a (h (head g a)))) c)

module _ (g : Yard) {A : Type 0} (p : Tolls A) (l : Fares A) (bound : ℕ) (so : Sound g) (n : Apart g) (q : LawfulTolls p) where
  pub bill_is : (e : ℕ) → bill g p l e ≡ bill_step g p l (bill g p l) e
  unfolding bill
  bill_is = turns_is p.nought (bill_step g p l) (λ e. event_count g - e) (λ f h e s. ap (p.plus (late_lots g p l e)) (sum_near g so q (live g) (branch g p l) f h e s))

  module _ (z : Choice) where
    abbrev pub kept : ℕ → Bool
    kept a = live g a && binds g z a

    abbrev pub reached : ℕ → Bool
    reached e = ltb 0 (least g z e)

    abbrev pub root : ℕ → Bool
    root e = ltb 0 (noted g e)

    -- what an event that is late costs by itself
    unfoldable pub cost : ℕ → A
    cost e = p.plus (late_lots g p l e) (total p (activity_count g) (λ a. given p (eqb (tail g a) e && (keen g a && not (z a))) (miss_bill g p l a)))

    due_step : (ℕ → A) → ℕ → A
    due_step b e = p.plus (cost e) (total p (activity_count g) (λ a. given p (eqb (tail g a) e && kept a) (b (head g a))))

    -- .. and with all that it makes late
    pub due : ℕ → A
    due e = turns p.nought due_step (suc (event_count g - e)) e

    pub due_is : (e : ℕ) → due e ≡ p.plus (cost e) (total p (activity_count g) (λ a. given p (eqb (tail g a) e && kept a) (due (head g a))))
    unfolding due due_step
    due_is = turns_is p.nought due_step (λ e. event_count g - e) (λ f h e s. ap (p.plus (cost e)) (sum_near g so q kept (λ a x. x) f h e s))

    -- the head of a live activity is reached where it binds and its tail is reached
    pub reached_on : (a : ℕ) → a < activity_count g → live g a ≡ true → reached (head g a) ≡ (binds g z a && reached (tail g a))
    reached_on a w v = go (cases_Bool (binds g z a)) (two_ways g so n z (tail g a))
      where
        go : (binds g z a ≡ true) ⊎ (binds g z a ≡ false) → (least g z (tail g a) ≡ 0) ⊎ (least g z (tail g a) ≡ worst g (tail g a)) → reached (head g a) ≡ (binds g z a && reached (tail g a))
        go (inr r) t = let k = zero_below g so z n a w v (inl r) in grind (arith, nat_tests)
        go (inl r) (inl t) = let k = zero_below g so z n a w v (inr t) in grind (arith, nat_tests)
        go (inl r) (inr t) =
            let k = carried g so z n a w v r in
            let j : handed g a (least g z (tail g a)) ≡ handed g a (worst g (tail g a)) = ap (handed g a) t in
            let u = so.under a (worst g (tail g a)) in
            grind (arith, nat_tests)

    -- an event is reached from one source or from none
    pub one_source : (e : ℕ) → e < event_count g → (x : A) → given p (reached e) x ≡ p.plus (given p (root e) x) (total p (activity_count g) (λ a. given p (eqb (head g a) e && (kept a && reached (tail g a))) x))
    one_source e h x = go (found (activity_count g) (λ a. eqb (head g a) e && live g a))
      where
        term : ℕ → A
        term a = given p (eqb (head g a) e && (kept a && reached (tail g a))) x

        dead : (a : ℕ) → (eqb (head g a) e && live g a) ≡ false → term a ≡ p.nought
        dead a k = grind (arith, nat_tests)

        own : (a : ℕ) → eqb (head g a) e ≡ true → live g a ≡ true → given p (binds g z a && reached (tail g a)) x ≡ term a
        own a k v = sym (ap₂ (λ b c. given p (b && ((c && binds g z a) && reached (tail g a))) x) k v)

        other : (a : ℕ) → a < activity_count g → head g a ≡ e → live g a ≡ true → (i : ℕ) → i < activity_count g → (i ≡ a → ⊥) → ((eqb (head g i) e && live g i) ≡ true) ⊎ ((eqb (head g i) e && live g i) ≡ false) → (eqb (head g i) e && live g i) ≡ false
        other a v t k i w ne (inr d) = d
        other a v t k i w ne (inl d) =
            let c = and_parts (eqb (head g i) e) (live g i) d in
            absurd (ne (n.one i a w v c.1 k (eqb-true (head g i) e c.0 ∙ sym t)))

        go : ((a : ℕ) × (a < activity_count g) × ((eqb (head g a) e && live g a) ≡ true)) ⊎ ((a : ℕ) → a < activity_count g → (eqb (head g a) e && live g a) ≡ false) → given p (reached e) x ≡ p.plus (given p (root e) x) (total p (activity_count g) term)
        go (inr none) =
            let o = by_own g so z n e none in
            ap (λ b. given p (ltb 0 b) x) o ∙ sym (right q _) ∙ ap (p.plus (given p (root e) x)) (sym (sum_none q (activity_count g) term (λ a w. dead a (none a w))))
        go (inl r) =
            let a : ℕ = r.0 in
            let k = and_parts (eqb (head g a) e) (live g a) r.2 in
            let t : head g a ≡ e = eqb-true (head g a) e k.0 in
            let f : noted g e ≡ 0 = ap (noted g) (sym t) ∙ n.fresh a r.1 k.1 in
            let m : reached e ≡ (binds g z a && reached (tail g a)) = ap reached (sym t) ∙ reached_on a r.1 k.1 in
            let u : total p (activity_count g) term ≡ term a = sum_one q (activity_count g) term a r.1 (λ i w ne. dead i (other a r.1 t k.1 i w ne (cases_Bool (eqb (head g i) e && live g i)))) in
            ap (λ b. given p b x) m ∙ own a k.0 k.1 ∙ sym u ∙ sym (q.neutral (total p (activity_count g) term)) ∙ ap (λ b. p.plus (given p b x) (total p (activity_count g) term)) (sym (le-ltb 0 (noted g e) (omega arith)))

    -- what the choice has paid for each late event is due at the roots
    pub all_due : total p (event_count g) (λ e. given p (reached e) (cost e)) ≡ total p (event_count g) (λ e. given p (root e) (due e))
    all_due = flow q (event_count g) (activity_count g) (tail g) (head g) (λ a w. (so.before a w, so.within a w)) kept reached root cost due (λ e h. due_is e) one_source

    -- at an activity out of e: what is due there, by the cut or beyond the head
    abbrev pub out : ℕ → ℕ → A
    out e a = p.plus (given p (eqb (tail g a) e && (keen g a && not (z a))) (miss_bill g p l a)) (given p (eqb (tail g a) e && kept a) (due (head g a)))

    pub due_out : (e : ℕ) → due e ≡ p.plus (late_lots g p l e) (total p (activity_count g) (out e))
    unfolding cost
    due_out e = due_is e ∙ q.assoc _ _ _ ∙ ap (p.plus (late_lots g p l e)) (sym (sum_plus q (activity_count g) _ _))

    abbrev toward : ℕ → ℕ → A
    toward e a = given p (eqb (tail g a) e && live g a) (branch g p l a (bill g p l (head g a)))

    branch_bill : (a : ℕ) (x : A) → Le p (branch g p l a x) x
    branch_bill a x =
        let se = self q in let tr = q.trans in let to = q.total in grind (arith, se, tr, to)

    branch_miss : (a : ℕ) (x : A) → unmarked g a ≡ true → Le p (branch g p l a x) (miss_bill g p l a)
    branch_miss a x h =
        let se = self q in let tr = q.trans in let to = q.total in grind (arith, se, tr, to)

    each_out : (e a : ℕ) → (eqb (tail g a) e ≡ true → Le p (bill g p l (head g a)) (due (head g a))) → Le p (toward e a) (out e a)
    each_out e a h =
        let b = branch_bill a (bill g p l (head g a)) in
        let m = branch_miss a (bill g p l (head g a)) in
        let tr = q.trans (branch g p l a (bill g p l (head g a))) (bill g p l (head g a)) (due (head g a)) in
        let se = self q in let l0 = q.neutral in let r0 = right q in
        grind (arith, se, l0, r0)

    -- no choice makes less due than the bill says
    pub bill_below : (k e : ℕ) → event_count g - e < k → Le p (bill g p l e) (due e)
    bill_below zero e h = absurd (omega arith)
    bill_below (suc k) e h =
        let r : Le p (total p (activity_count g) (toward e)) (total p (activity_count g) (out e)) = sum_le q (activity_count g) (toward e) (out e) (λ a w. each_out e a (λ t. let v = nearer g so a e w (eqb-true (tail g a) e t) in bill_below k (head g a) (omega arith))) in
        let u : Le p (p.plus (late_lots g p l e) (total p (activity_count g) (toward e))) (p.plus (late_lots g p l e) (total p (activity_count g) (out e))) = both_le q _ _ _ _ (self q (late_lots g p l e)) r in
        rw (bill_is e, due_out e) u

    module _ (pl : Planned g p l z) where
      each_plan : (e a : ℕ) → a < activity_count g → reached e ≡ true → (eqb (tail g a) e ≡ true → kept a ≡ true → due (head g a) ≡ bill g p l (head g a)) → out e a ≡ toward e a
      unfolding Planned
      each_plan e a w r h =
          let t : unmarked g a ≡ true → z a ≡ not (live g a && (ltb 0 (least g z (tail g a)) && p.at_most (miss_bill g p l a) (bill g p l (head g a)))) = pl a w in
          let l0 = q.neutral in let r0 = right q in
          grind (arith, nat_tests, l0, r0)

      pub plan_due : (k e : ℕ) → event_count g - e < k → reached e ≡ true → due e ≡ bill g p l e
      plan_due zero e h r = absurd (omega arith)
      plan_due (suc k) e h r =
          due_out e ∙ ap (p.plus (late_lots g p l e)) (sum_same q (activity_count g) (out e) (toward e) (λ a w. each_plan e a w r (λ t kp. beyond a w t kp (λ v. plan_due k (head g a) v))))
          ∙ sym (bill_is e)
        where
          beyond : (a : ℕ) → a < activity_count g → eqb (tail g a) e ≡ true → kept a ≡ true → (event_count g - head g a < k → reached (head g a) ≡ true → due (head g a) ≡ bill g p l (head g a)) → due (head g a) ≡ bill g p l (head g a)
          beyond a w t kp f =
              let e' = eqb-true (tail g a) e t in
              let v = nearer g so a e w e' in
              let c = and_parts (live g a) (binds g z a) kp in
              f (omega arith) (reached_on a w c.0 ∙ ap₂ ◌&&◌ c.1 (ap reached e' ∙ r))
