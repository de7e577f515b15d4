-- In a forest, what each reached event costs comes to what the roots' bills say. No toll is cancelled.
use Rattle.std.proofs.Common.{◌≡◌, ℕ, zero, suc, ◌<◌, ◌≤◌, Bool, cond, ◌&&◌, eqb, ltb, leb, sym, refl, ap, ◌∙◌, ap₂, arith}
use Rattle.std.proofs.lemmas.Bool.Decides.{nat_tests}
use Rattle.model.specs.Tolls.{given}
use Rattle.sums.specs.Totals.{total}
use Rattle.tariff.specs.Tolls.{LawfulTolls, Tolls}
use Rattle.model.proofs.Sums.{right, cross, sum_same, sum_none, sum_plus, given_sum, given_plus, sum_at}

module _
    {A : Type 0} {p : Tolls A} (q : LawfulTolls p)
    (n m : ℕ) (tail head : ℕ → ℕ) (order : (a : ℕ) → a < m → (tail a < head a) × (head a < n))
    (kept reached root : ℕ → Bool) (w bill : ℕ → A)
    (bills : (e : ℕ) → e < n → bill e ≡ p.plus (w e) (total p m (λ a. given p (eqb (tail a) e && kept a) (bill (head a)))))
    (sources : (e : ℕ) → e < n → (x : A) → given p (reached e) x ≡ p.plus (given p (root e) x) (total p m (λ a. given p (eqb (head a) e && (kept a && reached (tail a))) x)))
  where
    -- the events below k by their costs, the others by the bills of their roots
    ev : ℕ → ℕ → A
    ev k e = cond (ltb e k) (given p (reached e) (w e)) (given p (root e) (bill e))

    -- the flows over k, by their bills
    ac : ℕ → ℕ → A
    ac k a = given p ((kept a && reached (tail a)) && (ltb (tail a) k && leb k (head a))) (bill (head a))

    phi : ℕ → A
    phi k = p.plus (total p n (ev k)) (total p m (ac k))

    ev_rest : ℕ → ℕ → A
    ev_rest k e = cond (eqb e k) p.nought (ev k e)

    ac_rest : ℕ → ℕ → A
    ac_rest k a = given p ((kept a && reached (tail a)) && (ltb (tail a) k && ltb k (head a))) (bill (head a))

    ev_now : (k e : ℕ) → ev k e ≡ p.plus (ev_rest k e) (given p (eqb e k) (given p (root e) (bill e)))
    unfolding ev ev_rest
    ev_now k e = let l = q.neutral in let r = right q in grind (arith, nat_tests, l, r)

    ev_then : (k e : ℕ) → ev (suc k) e ≡ p.plus (ev_rest k e) (given p (eqb e k) (given p (reached e) (w e)))
    unfolding ev ev_rest
    ev_then k e = let l = q.neutral in let r = right q in grind (arith, nat_tests, l, r)

    ac_now : (k a : ℕ) → a < m → ac k a ≡ p.plus (ac_rest k a) (given p (eqb (head a) k && (kept a && reached (tail a))) (bill k))
    unfolding ac ac_rest
    ac_now k a h = let o = order a h in let l = q.neutral in let r = right q in grind (arith, nat_tests, l, r)

    ac_then : (k a : ℕ) → a < m → ac (suc k) a ≡ p.plus (ac_rest k a) (given p (reached k) (given p (eqb (tail a) k && kept a) (bill (head a))))
    unfolding ac ac_rest
    ac_then k a h = let o = order a h in let l = q.neutral in let r = right q in grind (arith, nat_tests, l, r)

    phi_now : (k : ℕ) → k < n → phi k ≡ p.plus (p.plus (total p n (ev_rest k)) (total p m (ac_rest k))) (given p (reached k) (bill k))
    unfolding phi
    phi_now k h =
        let old : ℕ → A = λ a. given p (eqb (head a) k && (kept a && reached (tail a))) (bill k) in
        let e : total p n (ev k) ≡ p.plus (total p n (ev_rest k)) (given p (root k) (bill k)) =
        sum_same q n _ _ (λ i j. ev_now k i) ∙ sum_plus q n (ev_rest k) _ ∙ ap (p.plus (total p n (ev_rest k))) (sum_at q n (λ i. given p (root i) (bill i)) k h) in
        let a : total p m (ac k) ≡ p.plus (total p m (ac_rest k)) (total p m old) =
        sum_same q m _ _ (λ i j. ac_now k i j) ∙ sum_plus q m (ac_rest k) old in
        ap₂ p.plus e a
        ∙ cross q (total p n (ev_rest k)) (given p (root k) (bill k)) (total p m (ac_rest k)) (total p m old)
        ∙ ap (p.plus (p.plus (total p n (ev_rest k)) (total p m (ac_rest k)))) (sym (sources k h (bill k)))

    phi_then : (k : ℕ) → k < n → phi (suc k) ≡ p.plus (p.plus (total p n (ev_rest k)) (total p m (ac_rest k))) (given p (reached k) (bill k))
    unfolding phi
    phi_then k h =
        let new : ℕ → A = λ a. given p (eqb (tail a) k && kept a) (bill (head a)) in
        let e : total p n (ev (suc k)) ≡ p.plus (total p n (ev_rest k)) (given p (reached k) (w k)) =
        sum_same q n _ _ (λ i j. ev_then k i) ∙ sum_plus q n (ev_rest k) _ ∙ ap (p.plus (total p n (ev_rest k))) (sum_at q n (λ i. given p (reached i) (w i)) k h) in
        let a : total p m (ac (suc k)) ≡ p.plus (total p m (ac_rest k)) (given p (reached k) (total p m new)) =
        sum_same q m _ _ (λ i j. ac_then k i j) ∙ sum_plus q m (ac_rest k) _ ∙ ap (p.plus (total p m (ac_rest k))) (sym (given_sum q (reached k) m new)) in
        ap₂ p.plus e a
        ∙ cross q (total p n (ev_rest k)) (given p (reached k) (w k)) (total p m (ac_rest k)) (given p (reached k) (total p m new))
        ∙ ap (p.plus (p.plus (total p n (ev_rest k)) (total p m (ac_rest k)))) (sym (given_plus q (reached k) (w k) (total p m new)) ∙ ap (given p (reached k)) (sym (bills k h)))

    phi_same : (k : ℕ) → k ≤ n → phi k ≡ phi 0
    phi_same zero h = refl
    phi_same (suc k) h = phi_then k h ∙ sym (phi_now k h) ∙ phi_same k (omega arith)

    ev_last : (e : ℕ) → e < n → given p (reached e) (w e) ≡ ev n e
    unfolding ev
    ev_last e h = grind (arith, nat_tests)

    ac_last : (a : ℕ) → a < m → ac n a ≡ p.nought
    unfolding ac
    ac_last a h = let o = order a h in grind (arith, nat_tests)

    ev_first : (e : ℕ) → e < n → ev 0 e ≡ given p (root e) (bill e)
    unfolding ev
    ev_first e h = grind (arith, nat_tests)

    ac_first : (a : ℕ) → a < m → ac 0 a ≡ p.nought
    unfolding ac
    ac_first a h = grind (arith, nat_tests)

    phi_last : total p n (λ e. given p (reached e) (w e)) ≡ phi n
    unfolding phi
    phi_last = sum_same q n _ _ ev_last ∙ sym (right q _) ∙ ap (p.plus (total p n (ev n))) (sym (sum_none q m (ac n) ac_last))

    phi_first : phi 0 ≡ total p n (λ e. given p (root e) (bill e))
    unfolding phi
    phi_first = ap (p.plus (total p n (ev 0))) (sum_none q m (ac 0) ac_first) ∙ right q _ ∙ sum_same q n _ _ ev_first

    pub flow : total p n (λ e. given p (reached e) (w e)) ≡ total p n (λ e. given p (root e) (bill e))
    flow = phi_last ∙ phi_same n (omega arith) ∙ phi_first
