-- The plan is cheapest.
use Rattle.std.proofs.Common.{◌≡◌, ℕ, suc, ◌-◌, Bool, true, false, cond, not, ltb, ◌⊎◌, sym, ap, ◌∙◌, inl, inr, arith}
use Rattle.std.proofs.lemmas.Bool.{cases_Bool, lt-ltb, ltb-true}
use Rattle.model.proofs.Ground.{Orderly, Sound, Le, self}
use Rattle.model.specs.Lateness.{Choice, Lawful, least}
use Rattle.model.specs.Lots.{lot_count, whole}
use Rattle.model.specs.Meeting.{Apart}
use Rattle.model.specs.Tolls.{Fares, Planned, bill, given, pay, plan_toll, struck_charges, toll}
use Rattle.model.specs.Yard.{Yard, event_count, noted}
use Rattle.sums.specs.Totals.{total}
use Rattle.tariff.specs.Tolls.{LawfulTolls, Tolls}
use Rattle.model.proofs.Lateness.{least_is}
use Rattle.model.proofs.Sums.{right, both_le, sum_same, sum_le, sum_plus}
use Rattle.model.proofs.Exchange.{exchange, lot_part, lot_part_is}
use Rattle.model.proofs.Shares.{share, share_below, share_plan}
use Rattle.model.proofs.Bills.{reached, root, due, all_due, bill_below, plan_due}

module _ (g : Yard) {A : Type 0} (p : Tolls A) (l : Fares A) (bound : ℕ) (so : Sound g) (n : Apart g) (q : LawfulTolls p) (o : Orderly g p l bound) where
  -- the lots with a struck transfer pay the same under every choice
  lost : A
  lost = total p (lot_count g) (λ i. given p (not (whole g i)) (l.miss i))

  module _ (z : Choice) where
    -- all shares, by the bills of the roots with this choice's decisions
    shares : total p (lot_count g) (share g p l bound so n q o z) ≡ p.plus lost (total p (event_count g) (λ e. given p (root g p l bound so n q z e) (due g p l bound so n q z e)))
    unfolding lost
    shares =
        sum_same q (lot_count g) (share g p l bound so n q o z) _ (λ i h. ap (λ x. cond (whole g i) x (l.miss i)) (sym (lot_part_is g p l bound so n q o.finish z late' i)) ∙ part (whole g i) (lot_part g p l bound so n q o.finish z late' i) (l.miss i))
        ∙ sum_plus q (lot_count g) (λ i. given p (not (whole g i)) (l.miss i)) _
        ∙ ap (p.plus lost) (exchange g p l bound so n q o.finish z late' ∙ all_due g p l bound so n q z)
      where
        late' : ℕ → Bool
        late' = reached g p l bound so n q z

        part : (b : Bool) (x m : A) → cond b x m ≡ p.plus (given p (not b) m) (given p b x)
        part true x m = sym (q.neutral _)
        part false x m = sym (right q m)

  pub cheapest : (z : Choice) → Planned g p l z → (x : ℕ → Bool) (y : ℕ → ℕ) → Lawful g x y → (toll g p l z (least g z) ≡ plan_toll g p l) × Le p (plan_toll g p l) (toll g p l x y)
  unfolding toll plan_toll lost struck_charges
  cheapest z pl x y ly =
      let plan : total p (lot_count g) (pay g p l z (least g z)) ≡ p.plus lost roots =
      sum_same q (lot_count g) _ _ (λ i h. share_plan g p l bound so n q o z pl i h) ∙ shares z ∙ ap (p.plus lost) (sum_same q (event_count g) _ _ (λ e h. at_root e (cases_Bool (ltb 0 (noted g e))))) in
      let low : Le p (p.plus lost roots) (p.plus lost (total p (event_count g) (λ e. given p (ltb 0 (noted g e)) (due g p l bound so n q x e)))) =
      both_le q _ _ _ _ (self q lost) (sum_le q (event_count g) _ _ (λ e h. given_le (ltb 0 (noted g e)) _ _ (bill_below g p l bound so n q x (suc (event_count g - e)) e (omega arith)))) in
      let any : Le p (total p (lot_count g) (share g p l bound so n q o x)) (total p (lot_count g) (pay g p l x y)) =
      sum_le q (lot_count g) _ _ (λ i h. share_below g p l bound so n q o x y ly i h) in
      let high = rw (shares x) at any in
      (plan, q.trans _ _ _ low high)
    where
      roots : A
      roots = total p (event_count g) (λ e. given p (ltb 0 (noted g e)) (bill g p l e))

      given_le : (b : Bool) (u v : A) → Le p u v → Le p (given p b u) (given p b v)
      given_le true u v h = h
      given_le false u v h = self q p.nought

      at_root : (e : ℕ) → (ltb 0 (noted g e) ≡ true) ⊎ (ltb 0 (noted g e) ≡ false) → given p (ltb 0 (noted g e)) (due g p l bound so n q z e) ≡ given p (ltb 0 (noted g e)) (bill g p l e)
      at_root e (inl t) =
          let d = ltb-true 0 (noted g e) t in
          let k = least_is g so z e in
          ap (given p (ltb 0 (noted g e))) (plan_due g p l bound so n q z pl (suc (event_count g - e)) e (omega arith) (lt-ltb 0 (least g z e) (omega arith)))
      at_root e (inr t) = ap (λ b. given p b (due g p l bound so n q z e)) t ∙ sym (ap (λ b. given p b (bill g p l e)) t)
