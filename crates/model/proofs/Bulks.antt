-- No toll that is formed on the way to a bill is larger than all lots' weights together.
use Rattle.std.proofs.Common.{◌≡◌, ℕ, zero, suc, ◌+◌, ◌-◌, ◌<◌, ◌≤◌, Bool, true, false, cond, not, ◌&&◌, ◌||◌, eqb, ltb, ◌⊎◌, List, [], ◌∷◌, sym, refl, ap, ◌∙◌, inl, inr, arith}
use Rattle.std.proofs.lemmas.Bool.{cases_eq, cases_lt, eqb-true, ne_eqb, le-ltb, and_parts, and_right, cond-true, cond-false}
use Rattle.std.proofs.lemmas.Bool.Decides.{nat_tests}
use Rattle.model.proofs.Ground.{Chain, Orderly, Sound}
use Rattle.model.proofs.Rooms.{loop, Weighed, Roomy, lots_loop, acts_loop, lost_loop, BillRoomy, MissRoomy, PlanRoomy}
use Rattle.model.specs.Finite.{some}
use Rattle.model.specs.Lateness.{Choice, binds, least, worst}
use Rattle.model.specs.Lots.{end, lot_count, path, start, whole}
use Rattle.model.specs.Meeting.{Apart, live}
use Rattle.model.specs.Tolls.{Fares, bill, branch, given, late_lots, miss_bill, pay, plan_toll, struck_charges}
use Rattle.model.specs.Yard.{Yard, activity_count, event_count, head, noted, tail, unmarked}
use Rattle.sums.specs.Totals.{total}
use Rattle.tariff.specs.Tolls.{LawfulTolls, Tolls, numbers}
use Rattle.model.proofs.Sums.{right, sum_none, sum_plus, sum_at}
use Rattle.model.proofs.Flow.{flow}
use Rattle.model.proofs.Shares.{has, worst_bounded}
use Rattle.model.proofs.Bills.{nearer, bill_is, kept, cost, due, due_is, out, due_out}
use Rattle.model.proofs.Exchange.{exchange, lot_part, lot_part_is}
use Rattle.model.proofs.Forest.{worst_is, below_worst}
use Rattle.model.proofs.Reach.{along, reach, parted, one_source, once}

pub numbers_fair : LawfulTolls numbers
numbers_fair = record {
  assoc = λ x y z. omega arith;
  comm = λ x y. omega arith;
  neutral = λ x. omega arith;
  total = λ x y h. grind (arith, nat_tests);
  trans = λ x y z h k. grind (arith, nat_tests);
  antisym = λ x y h k. grind (arith, nat_tests);
  shift = λ x y z h. grind (arith, nat_tests);
  light = refl;
  sum_bulk = λ x y. omega arith;
}

pub total_le : (n : ℕ) (f h : ℕ → ℕ) → ((i : ℕ) → i < n → f i ≤ h i) → total numbers n f ≤ total numbers n h
unfolding total
total_le zero f h s = omega arith
total_le (suc n) f h s =
    let r : total numbers n f ≤ total numbers n h = total_le n f h (λ i k. s i (omega arith)) in
    let t : f n ≤ h n = s n (omega arith) in
    omega arith

pub total_part : (k n : ℕ) (f : ℕ → ℕ) → k ≤ n → total numbers k f ≤ total numbers n f
unfolding total
total_part k zero f h = let e : k ≡ zero = omega arith in rw e (omega arith)
total_part k (suc n) f h = go (cases_eq k (suc n)) (λ j. total_part k n f j)
  where
    go : (k ≡ suc n) ⊎ (k ≡ suc n → ⊥) → (k ≤ n → total numbers k f ≤ total numbers n f) → total numbers k f ≤ total numbers n f + f n
    go (inl e) r = rw e (omega arith)
    go (inr ne) r = let t = r (omega arith) in omega arith

-- a charge for each passing activity that stands on the path is at worst one for each passing step
sum_along : (g : Yard) (t : ℕ → Bool) (c e : ℕ) (s : List ℕ) → Chain g e s → total numbers (activity_count g) (λ a. given numbers (t a && has a s) c) ≤ along t c s
unfolding along some
sum_along g t c e [] ch =
    let z : total numbers (activity_count g) (λ a. given numbers (t a && false) c) ≡ 0 = sum_none numbers_fair (activity_count g) _ (λ a w. cond-false (t a && false) c 0 (and_right (t a) false refl)) in
    omega arith
sum_along g t c e (b ∷ s) ch =
    let r : total numbers (activity_count g) (λ a. given numbers (t a && has a s) c) ≤ along t c s = sum_along g t c (head g b) s ch.2 in
    let u : total numbers (activity_count g) (λ a. given numbers (t a && (eqb b a || has a s)) c) ≤ total numbers (activity_count g) (λ a. given numbers (eqb a b) (given numbers (t b) c) + given numbers (t a && has a s) c) = total_le (activity_count g) _ _ (λ a w. each a (cases_eq a b)) in
    let v : total numbers (activity_count g) (λ a. given numbers (eqb a b) (given numbers (t b) c) + given numbers (t a && has a s) c) ≡ total numbers (activity_count g) (λ a. given numbers (eqb a b) (given numbers (t b) c)) + total numbers (activity_count g) (λ a. given numbers (t a && has a s) c) = sum_plus numbers_fair (activity_count g) (λ a. given numbers (eqb a b) (given numbers (t b) c)) (λ a. given numbers (t a && has a s) c) in
    let w : total numbers (activity_count g) (λ a. given numbers (eqb a b) (given numbers (t b) c)) ≡ given numbers (t b) c = sum_at numbers_fair (activity_count g) (λ a. given numbers (t b) c) b ch.0 in
    omega arith
  where
    each : (a : ℕ) → (a ≡ b) ⊎ (a ≡ b → ⊥) → given numbers (t a && (eqb b a || has a s)) c ≤ given numbers (eqb a b) (given numbers (t b) c) + given numbers (t a && has a s) c
    each a (inl e) = let x : t a ≡ t b = ap t e in grind (arith, nat_tests)
    each a (inr ne) = grind (arith, nat_tests)

module _ {A : Type 0} (p : Tolls A) (q : LawfulTolls p) where
  pub loop_is : (x : A) (n : ℕ) (t : ℕ → Bool) (f : ℕ → A) → loop p x n t f ≡ p.plus x (total p n (λ i. given p (t i) (f i)))
  unfolding loop total
  loop_is x zero t f = sym (right q x)
  loop_is x (suc n) t f = go (t n) (loop_is x n t f)
    where
      go : (b : Bool) → loop p x n t f ≡ p.plus x (total p n (λ i. given p (t i) (f i))) → cond b (p.plus (loop p x n t f) (f n)) (loop p x n t f) ≡ p.plus x (p.plus (total p n (λ i. given p (t i) (f i))) (given p b (f n)))
      go true r = ap (λ y. p.plus y (f n)) r ∙ q.assoc _ _ _
      go false r = r ∙ ap (p.plus x) (sym (right q _))

  module _ (x : A) (y n : ℕ) (t : ℕ → Bool) (f : ℕ → A) (h : ℕ → ℕ) (begun : p.bulk x ≤ y) (each : (k : ℕ) → k < n → t k ≡ true → p.bulk (f k) ≤ h k) where
    pub loop_bulk : (k : ℕ) → k ≤ n → p.bulk (loop p x k t f) ≤ y + total numbers k (λ i. given numbers (t i) (h i))
    unfolding loop total
    loop_bulk zero w = omega arith
    loop_bulk (suc k) w = go (t k) (each k (omega arith)) (loop_bulk k (omega arith))
      where
        go : (b : Bool) → (b ≡ true → p.bulk (f k) ≤ h k) → p.bulk (loop p x k t f) ≤ y + total numbers k (λ i. given numbers (t i) (h i)) → p.bulk (cond b (p.plus (loop p x k t f) (f k)) (loop p x k t f)) ≤ y + (total numbers k (λ i. given numbers (t i) (h i)) + given numbers b (h k))
        go true e r = let a = q.sum_bulk (loop p x k t f) (f k) in let d = e refl in omega arith
        go false e r = omega arith

    pub roomy_from : (cap : ℕ) → y + total numbers n (λ i. given numbers (t i) (h i)) ≤ cap → Roomy p cap x n t f
    unfolding total
    roomy_from cap fits = record {
      held = λ k w. let a = loop_bulk k w in let b = total_part k n (λ i. given numbers (t i) (h i)) w in omega arith;
      room = λ k w pass.
          let a = loop_bulk k (omega arith) in
          let b : total numbers k (λ i. given numbers (t i) (h i)) + given numbers (t k) (h k) ≤ total numbers n (λ i. given numbers (t i) (h i)) = total_part (suc k) n (λ i. given numbers (t i) (h i)) w in
          let c = each k w pass in
          let d : given numbers (t k) (h k) ≡ h k = cond-true (t k) (h k) 0 pass in
          omega arith;
    }

module _ {A : Type 0} (p : Tolls A) (q : LawfulTolls p) (g : Yard) (l : Fares A) (bound : ℕ) (u : ℕ → ℕ) (so : Sound g) (n : Apart g) (o : Orderly g p l bound) (wt : Weighed g p l bound u) where
  -- the same lots, each paying its weight
  abbrev weights : Fares ℕ
  weights = record { late = λ i t. u i; miss = u }

  -- the decisions of the bills
  abbrev lean : ℕ → Bool
  lean a = not (live g a && p.at_most (miss_bill g p l a) (bill g p l (head g a)))

  abbrev all : ℕ
  all = total numbers (lot_count g) u

  abbrev burden : ℕ → ℕ
  burden = due g numbers weights bound so n numbers_fair lean

  abbrev struck_weight : ℕ
  struck_weight = total numbers (lot_count g) (λ i. given numbers (not (whole g i)) (u i))

  -- from any roots of which none lies below another, all together
  module _
      (root : ℕ → Bool)
      (Past : ℕ → Type 0)
      (past : (a : ℕ) → a < activity_count g → (root (tail g a) ≡ true) ⊎ Past (tail g a) → Past (head g a))
      (clear : (a : ℕ) → a < activity_count g → live g a ≡ true → Past (head g a) → root (head g a) ≡ false)
      (early : (x : ℕ) → Past x → worst g x ≡ 0 → root x ≡ false)
    where
      abbrev part : ℕ → ℕ
      part = lot_part g numbers weights bound so n numbers_fair o.finish lean (reach g so n lean root)

      by_lots : total numbers (lot_count g) (λ i. given numbers (whole g i) (part i)) ≡ total numbers (event_count g) (λ e. given numbers (root e) (burden e))
      by_lots =
          exchange g numbers weights bound so n numbers_fair o.finish lean (reach g so n lean root)
          ∙ flow numbers_fair (event_count g) (activity_count g) (tail g) (head g) (λ a w. (so.before a w, so.within a w)) (kept g numbers weights bound so n numbers_fair lean) (reach g so n lean root) root
          (cost g numbers weights bound so n numbers_fair lean) burden (λ e h. due_is g numbers weights bound so n numbers_fair lean e) (λ e h x. one_source g so n lean root Past past clear early numbers_fair e x)

      part_le : (i : ℕ) → i < lot_count g → whole g i ≡ true → part i ≤ u i
      part_le i w wh =
          let e = lot_part_is g numbers weights bound so n numbers_fair o.finish lean (reach g so n lean root) i in
          let s = sum_along g (parted g so n lean root) (u i) (start g i) (path g i) (o.chain i w) in
          let t = once g so n lean root Past past clear early (start g i) (u i) (path g i) (o.chain i w) (o.untangled i w wh) in
          omega arith

      pub roots_le : struck_weight + total numbers (event_count g) (λ e. given numbers (root e) (burden e)) ≤ all
      roots_le =
          let e = by_lots in
          let s : total numbers (lot_count g) (λ i. given numbers (not (whole g i)) (u i) + given numbers (whole g i) (part i)) ≡ struck_weight + total numbers (lot_count g) (λ i. given numbers (whole g i) (part i)) = sum_plus numbers_fair (lot_count g) (λ i. given numbers (not (whole g i)) (u i)) (λ i. given numbers (whole g i) (part i)) in
          let t : total numbers (lot_count g) (λ i. given numbers (not (whole g i)) (u i) + given numbers (whole g i) (part i)) ≤ all = total_le (lot_count g) _ u (λ i w. each (whole g i) (u i) (part i) (part_le i w)) in
          omega arith
        where
          each : (b : Bool) (x y : ℕ) → (b ≡ true → y ≤ x) → given numbers (not b) x + given numbers b y ≤ x
          each true x y h = let k = h refl in omega arith
          each false x y h = omega arith

  -- one event as the root
  burden_near : (e : ℕ) → e < event_count g → burden e ≤ all
  burden_near e h =
      let r = roots_le (λ x. eqb x e) (λ x. e < x) past clear early in
      let s = sum_at numbers_fair (event_count g) burden e h in
      omega arith
    where
      past : (a : ℕ) → a < activity_count g → (eqb (tail g a) e ≡ true) ⊎ (e < tail g a) → e < head g a
      past a w (inl k) = let b = so.before a w in let t = eqb-true (tail g a) e k in omega arith
      past a w (inr k) = let b = so.before a w in omega arith

      clear : (a : ℕ) → a < activity_count g → live g a ≡ true → e < head g a → eqb (head g a) e ≡ false
      clear a w v k = ne_eqb (head g a) e (λ t. omega arith)

      early : (x : ℕ) → e < x → worst g x ≡ 0 → eqb x e ≡ false
      early x k m = ne_eqb x e (λ t. omega arith)

  -- past the last event there is nothing
  burden_far : (e : ℕ) → event_count g ≤ e → burden e ≡ 0
  unfolding late_lots
  burden_far e h =
      let d = due_out g numbers weights bound so n numbers_fair lean e in
      let a : total numbers (lot_count g) (λ i. given numbers (whole g i && eqb (end g i) e) (u i)) ≡ 0 = sum_none numbers_fair (lot_count g) _ (λ i w. lots i w) in
      let b : total numbers (activity_count g) (out g numbers weights bound so n numbers_fair lean e) ≡ 0 = sum_none numbers_fair (activity_count g) _ (λ a w. acts a w) in
      omega arith
    where
      lots : (i : ℕ) → i < lot_count g → given numbers (whole g i && eqb (end g i) e) (u i) ≡ 0
      lots i w = let f = o.finish i w in grind (arith, nat_tests)

      acts : (a : ℕ) → a < activity_count g → out g numbers weights bound so n numbers_fair lean e a ≡ 0
      acts a w = let b = so.before a w in let c = so.within a w in let t : eqb (tail g a) e ≡ false = ne_eqb (tail g a) e (λ k. omega arith) in grind arith

  pub burden_le : (e : ℕ) → burden e ≤ all
  burden_le e = go (cases_lt e (event_count g))
    where
      go : (e < event_count g) ⊎ (event_count g ≤ e) → burden e ≤ all
      go (inl h) = burden_near e h
      go (inr h) = let z = burden_far e h in omega arith

  -- all delays as the roots
  pub delays_le : struck_weight + total numbers (event_count g) (λ e. given numbers (ltb 0 (noted g e)) (burden e)) ≤ all
  delays_le = roots_le (λ e. ltb 0 (noted g e)) (λ x. Unit {0}) (λ a w h. tt) (λ a w v h. let f = n.fresh a w v in le-ltb 0 (noted g (head g a)) (omega arith)) (λ x h m. let f = worst_is g so x in le-ltb 0 (noted g x) (omega arith))

  -- a bill is no larger than its burden
  abbrev lots_test : ℕ → ℕ → Bool
  lots_test e i = whole g i && eqb (end g i) e

  late_each : (e k : ℕ) → k < lot_count g → lots_test e k ≡ true → p.bulk (l.late k (worst g e)) ≤ u k
  late_each e k w t = wt.lates k (worst g e) w (worst_bounded g p l bound so n q o e)

  abbrev miss_test : ℕ → ℕ → Bool
  miss_test a i = whole g i && some (λ b. eqb b a) (path g i)

  none_start : p.bulk p.nought ≤ 0
  none_start = let e = q.light in omega arith

  lots_is : (e : ℕ) → lots_loop g p l e (lot_count g) ≡ late_lots g p l e
  unfolding late_lots
  lots_is e = loop_is p q p.nought (lot_count g) (lots_test e) (λ i. l.late i (worst g e)) ∙ q.neutral _

  lots_bulk : (e : ℕ) → p.bulk (lots_loop g p l e (lot_count g)) ≤ late_lots g numbers weights e
  unfolding late_lots
  lots_bulk e = let r = loop_bulk p q p.nought 0 (lot_count g) (lots_test e) (λ i. l.late i (worst g e)) u none_start (late_each e) (lot_count g) (omega arith) in omega arith

  miss_is : (a : ℕ) → loop p p.nought (lot_count g) (miss_test a) (λ i. l.miss i) ≡ miss_bill g p l a
  unfolding miss_bill
  miss_is a = loop_is p q p.nought (lot_count g) (miss_test a) (λ i. l.miss i) ∙ q.neutral _

  miss_bulk : (a : ℕ) → p.bulk (miss_bill g p l a) ≤ miss_bill g numbers weights a
  unfolding miss_bill
  miss_bulk a =
      let r = loop_bulk p q p.nought 0 (lot_count g) (miss_test a) (λ i. l.miss i) u none_start (λ k w t. wt.misses k w) (lot_count g) (omega arith) in
      let e : p.bulk (loop p p.nought (lot_count g) (miss_test a) (λ i. l.miss i)) ≡ p.bulk (total p (lot_count g) (λ i. given p (miss_test a i) (l.miss i))) = ap p.bulk (loop_is p q p.nought (lot_count g) (miss_test a) (λ i. l.miss i) ∙ q.neutral _) in
      omega arith

  -- the lesser of two, by the bills
  abbrev lesser : ℕ → ℕ
  lesser a = cond (unmarked g a) (cond (p.at_most (miss_bill g p l a) (bill g p l (head g a))) (miss_bill g numbers weights a) (burden (head g a))) (burden (head g a))

  lesser_bulk : (a : ℕ) → p.bulk (bill g p l (head g a)) ≤ burden (head g a) → p.bulk (branch g p l a (bill g p l (head g a))) ≤ lesser a
  lesser_bulk a h = go (unmarked g a) (p.at_most (miss_bill g p l a) (bill g p l (head g a)))
    where
      go : (b c : Bool) → p.bulk (cond b (cond c (miss_bill g p l a) (bill g p l (head g a))) (bill g p l (head g a))) ≤ cond b (cond c (miss_bill g numbers weights a) (burden (head g a))) (burden (head g a))
      go true true = miss_bulk a
      go true false = h
      go false c = h

  abbrev acts_test : ℕ → ℕ → Bool
  acts_test e a = eqb (tail g a) e && live g a

  burden_is : (e : ℕ) → late_lots g numbers weights e + total numbers (activity_count g) (λ a. given numbers (acts_test e a) (lesser a)) ≤ burden e
  burden_is e =
      let d = due_out g numbers weights bound so n numbers_fair lean e in
      let s = total_le (activity_count g) (λ a. given numbers (acts_test e a) (lesser a)) (out g numbers weights bound so n numbers_fair lean e) (λ a w. each a) in
      omega arith
    where
      each : (a : ℕ) → given numbers (acts_test e a) (lesser a) ≤ out g numbers weights bound so n numbers_fair lean e a
      each a = grind (arith, nat_tests)

  acts_is : (e : ℕ) → acts_loop g p l e (activity_count g) ≡ bill g p l e
  acts_is e =
      loop_is p q (lots_loop g p l e (lot_count g)) (activity_count g) (acts_test e) (λ a. branch g p l a (bill g p l (head g a)))
      ∙ ap (λ x. p.plus x (total p (activity_count g) (λ a. given p (acts_test e a) (branch g p l a (bill g p l (head g a)))))) (lots_is e)
      ∙ sym (bill_is g p l bound so n q e)

  pub bill_bulk : (k e : ℕ) → event_count g - e < k → p.bulk (bill g p l e) ≤ burden e
  bill_bulk zero e h = absurd (omega arith)
  bill_bulk (suc k) e h =
      let r = loop_bulk p q (lots_loop g p l e (lot_count g)) (late_lots g numbers weights e) (activity_count g) (acts_test e) (λ a. branch g p l a (bill g p l (head g a))) lesser (lots_bulk e)
      (λ a w t. lesser_bulk a (let v = nearer g so a e w (eqb-true (tail g a) e (and_parts (eqb (tail g a) e) (live g a) t).0) in bill_bulk k (head g a) (omega arith))) (activity_count g) (omega arith) in
      let i = ap p.bulk (acts_is e) in
      let b = burden_is e in
      omega arith

  pub bill_roomy : (e : ℕ) → BillRoomy g p l all e
  unfolding late_lots
  bill_roomy e =
      let b = burden_is e in
      let c = burden_le e in
      record {
        lots = roomy_from p q p.nought 0 (lot_count g) (lots_test e) (λ i. l.late i (worst g e)) u none_start (late_each e) all (omega arith);
        acts = roomy_from p q (lots_loop g p l e (lot_count g)) (late_lots g numbers weights e) (activity_count g) (acts_test e) (λ a. branch g p l a (bill g p l (head g a))) lesser (lots_bulk e) (λ a w t. lesser_bulk a (bill_bulk (suc (event_count g - head g a)) (head g a) (omega arith))) all (omega arith);
        is = acts_is e;
        fits = (let r = bill_bulk (suc (event_count g - e)) e (omega arith) in omega arith);
      }

  pub miss_roomy : (a : ℕ) → MissRoomy g p l all a
  unfolding miss_bill
  miss_roomy a =
      let s : total numbers (lot_count g) (λ i. given numbers (miss_test a i) (u i)) ≤ all = total_le (lot_count g) _ u (λ i w. each (miss_test a i) (u i)) in
      record {
        lots = roomy_from p q p.nought 0 (lot_count g) (miss_test a) (λ i. l.miss i) u none_start (λ k w t. wt.misses k w) all (omega arith);
        is = miss_is a;
        fits = (let r = miss_bulk a in omega arith);
      }
    where
      each : (b : Bool) (x : ℕ) → given numbers b x ≤ x
      each true x = omega arith
      each false x = omega arith

  pub plan_roomy : PlanRoomy g p l all
  unfolding plan_toll struck_charges
  plan_roomy =
      let d = delays_le in
      record {
        lost = roomy_from p q p.nought 0 (lot_count g) lost_test (λ i. l.miss i) u none_start (λ k w t. wt.misses k w) all (omega arith);
        roots = roots;
        is = is;
        fits = (let h = roots.held (event_count g) (omega arith) in let e = ap p.bulk is in omega arith);
      }
    where
      lost_test : ℕ → Bool
      lost_test i = not (whole g i)

      lost_bulk : p.bulk (lost_loop g p l (lot_count g)) ≤ struck_weight
      lost_bulk = let r = loop_bulk p q p.nought 0 (lot_count g) lost_test (λ i. l.miss i) u none_start (λ k w t. wt.misses k w) (lot_count g) (omega arith) in omega arith

      roots : Roomy p all (lost_loop g p l (lot_count g)) (event_count g) (λ e. ltb 0 (noted g e)) (bill g p l)
      roots = roomy_from p q (lost_loop g p l (lot_count g)) struck_weight (event_count g) (λ e. ltb 0 (noted g e)) (bill g p l) burden lost_bulk (λ e w t. bill_bulk (suc (event_count g - e)) e (omega arith)) all delays_le

      is : loop p (lost_loop g p l (lot_count g)) (event_count g) (λ e. ltb 0 (noted g e)) (bill g p l) ≡ plan_toll g p l
      is =
          loop_is p q (lost_loop g p l (lot_count g)) (event_count g) (λ e. ltb 0 (noted g e)) (bill g p l)
          ∙ ap (λ x. p.plus x (total p (event_count g) (λ e. given p (ltb 0 (noted g e)) (bill g p l e)))) (loop_is p q p.nought (lot_count g) lost_test (λ i. l.miss i) ∙ q.neutral _)

  -- what a choice makes each lot pay, added up
  pub pay_roomy : (z : Choice) → Roomy p all p.nought (lot_count g) (λ i. true) (pay g p l z (least g z))
  pay_roomy z = roomy_from p q p.nought 0 (lot_count g) (λ i. true) (pay g p l z (least g z)) u none_start (λ i w t. each i w (some (λ a. not (binds g z a)) (path g i))) all (omega arith)
    where
      each : (i : ℕ) → i < lot_count g → (b : Bool) → p.bulk (cond b (l.miss i) (l.late i (least g z (end g i)))) ≤ u i
      each i w true = wt.misses i w
      each i w false = wt.lates i (least g z (end g i)) w (let a = below_worst g so z (end g i) in let b = worst_bounded g p l bound so n q o (end g i) in omega arith)
