-- The scan says exactly where a lot is tangled.
use Rattle.std.proofs.Common.{◌≡◌, ℕ, Bool, true, false, not, ◌&&◌, ◌||◌, ltb, ◌⊎◌, List, [], ◌∷◌, ◌++◌, Decides, sym, refl, ap, ◌∙◌, inl, inr, arith}
use Rattle.std.proofs.lemmas.Bool.{cases_Bool, and_parts, and_from, or_parts, or_cases, or_left, or_right, not-true, not_from_false, both_ways}
use Rattle.std.proofs.lemmas.Bool.Decides.{nat_tests, Decides-and}
use Rattle.model.proofs.Ground.{keen}
use Rattle.model.specs.Finite.{some}
use Rattle.model.specs.Lateness.{worst}
use Rattle.model.specs.Lots.{end, path, whole}
use Rattle.model.specs.Meeting.{live}
use Rattle.model.specs.Tangles.{Tangled, TangledLot, hot, late_end, scan, tangled}
use Rattle.model.specs.Yard.{Yard, transfer, unmarked, is_unmarked}
use Rattle.model.proofs.Paths.{some_less}

module _ (hot on : ℕ → Bool) (late : Bool) where
  abbrev then : List ℕ → Bool
  then s = some hot s || late

  -- a step that is off, then a hot one or a late end
  loosened : List ℕ → Bool
  loosened [] = false
  loosened (b ∷ s) = (not (on b) && then s) || loosened s

  knotted : List ℕ → Bool
  knotted [] = false
  knotted (a ∷ s) = (hot a && loosened s) || knotted s

  -- what the three registers come to
  turn : (s g a h f x d m k : Bool) → ((a || (g && h)) || (((g || (s && f)) && (x || d)) || (((s || h) && m) || k))) ≡ (a || ((g && ((h || x) || d)) || ((s && ((f && (x || d)) || m)) || ((h && m) || k))))
  turn s g a h f x d m k = grind arith

  scan_is : (s : List ℕ) (seen gap again : Bool) → scan hot on late seen gap again s ≡ (again || ((gap && then s) || ((seen && loosened s) || knotted s)))
  unfolding scan some loosened knotted
  scan_is [] seen gap again = last seen gap again late
    where
      last : (s g a d : Bool) → (a || (g && d)) ≡ (a || ((g && d) || ((s && false) || false)))
      last s g a d = grind arith
  scan_is (b ∷ s) seen gap again =
      scan_is s (seen || hot b) (gap || (seen && not (on b))) (again || (gap && hot b))
      ∙ turn seen gap again (hot b) (not (on b)) (some hot s) late (loosened s) (knotted s)

  record Loosened (s : List ℕ) : Type 0 where
    middle : List ℕ
    gap : ℕ
    back : List ℕ
    is : s ≡ middle ++ (gap ∷ back)
    off : on gap ≡ false
    again : (some hot back ≡ true) ⊎ (late ≡ true)

  loosened_true : (s : List ℕ) → loosened s ≡ true → Loosened s
  unfolding loosened
  loosened_true [] h = absurd (both_ways false refl h)
  loosened_true (b ∷ s) h = go (or_cases (not (on b) && then s) (loosened s) h) (loosened_true s)
    where
      go : ((not (on b) && then s) ≡ true) ⊎ (loosened s ≡ true) → (loosened s ≡ true → Loosened s) → Loosened (b ∷ s)
      go (inl k) r = let c = and_parts (not (on b)) (then s) k in record { middle = []; gap = b; back = s; is = refl; off = not-true (on b) c.0; again = or_cases (some hot s) late c.1 }
      go (inr k) r = let c = r k in record { middle = b ∷ c.middle; gap = c.gap; back = c.back; is = ap (◌∷◌ b) c.is; off = c.off; again = c.again }

  then_true : (s : List ℕ) → (some hot s ≡ true) ⊎ (late ≡ true) → then s ≡ true
  then_true s (inl h) = or_left (some hot s) late h
  then_true s (inr h) = or_right (some hot s) late h

  loosened_at : (v w : List ℕ) (b : ℕ) → on b ≡ false → then w ≡ true → loosened (v ++ (b ∷ w)) ≡ true
  unfolding loosened
  loosened_at [] w b h k = or_left (not (on b) && then w) (loosened w) (and_from (not (on b)) (then w) (not_from_false (on b) h) k)
  loosened_at (c ∷ v) w b h k = or_right (not (on c) && then (v ++ (b ∷ w))) (loosened (v ++ (b ∷ w))) (loosened_at v w b h k)

  knotted_true : (s : List ℕ) → knotted s ≡ true → Tangled hot on late s
  unfolding knotted
  knotted_true [] h = absurd (both_ways false refl h)
  knotted_true (a ∷ s) h = go (or_cases (hot a && loosened s) (knotted s) h) (knotted_true s)
    where
      go : ((hot a && loosened s) ≡ true) ⊎ (knotted s ≡ true) → (knotted s ≡ true → Tangled hot on late s) → Tangled hot on late (a ∷ s)
      go (inl k) r =
          let c = and_parts (hot a) (loosened s) k in
          let m = loosened_true s c.1 in
          record { before = []; at = a; between = m.middle; gap = m.gap; after = m.back; is = ap (◌∷◌ a) m.is; warm = c.0; off = m.off; again = m.again }
      go (inr k) r = let c = r k in record { before = a ∷ c.before; at = c.at; between = c.between; gap = c.gap; after = c.after; is = ap (◌∷◌ a) c.is; warm = c.warm; off = c.off; again = c.again }

  knotted_at : (u s : List ℕ) (a : ℕ) → hot a ≡ true → loosened s ≡ true → knotted (u ++ (a ∷ s)) ≡ true
  unfolding knotted
  knotted_at [] s a h k = or_left (hot a && loosened s) (knotted s) (and_from (hot a) (loosened s) h k)
  knotted_at (c ∷ u) s a h k = or_right (hot c && loosened (u ++ (a ∷ s))) (knotted (u ++ (a ∷ s))) (knotted_at u s a h k)

  pub scan_decides : (s : List ℕ) → Decides (scan hot on late false false false s) (Tangled hot on late s)
  scan_decides s = (λ h. knotted_true s (sym (scan_is s false false false) ∙ h), λ t. scan_is s false false false ∙ ap knotted t.is ∙ knotted_at t.before (t.between ++ (t.gap ∷ t.after)) t.at t.warm (loosened_at t.between t.after t.gap t.off (then_true t.after t.again)))

  -- a scan that finds nothing: what it rules out
  pub scan_clear : (s : List ℕ) → scan hot on late false false false s ≡ false → (u v w : List ℕ) (a b : ℕ) → s ≡ u ++ (a ∷ (v ++ (b ∷ w))) → hot a ≡ true → on b ≡ false → (some hot w ≡ false) × (late ≡ false)
  scan_clear s h u v w a b e k l = or_parts (some hot w) late (go (cases_Bool (then w)))
    where
      go : (then w ≡ true) ⊎ (then w ≡ false) → then w ≡ false
      go (inl t) = absurd (both_ways (scan hot on late false false false s) h ((scan_decides s).1 (record { before = u; at = a; between = v; gap = b; after = w; is = e; warm = k; off = l; again = or_cases (some hot w) late t })))
      go (inr t) = t

-- the clause that the lots' prices stand on, from a scan that finds nothing; an unmarked activity is a transfer
unmarked_transfer : (g : Yard) (a : ℕ) → unmarked g a ≡ true → transfer g a ≡ true
unfolding unmarked
unmarked_transfer g a h = (and_parts (transfer g a) (is_unmarked (g.mark a)) h).0

pub untangled_from : (g : Yard) (e : ℕ) (s : List ℕ) →
    scan (hot g) (live g) (ltb 0 (worst g e)) false false false s ≡ false →
    (u v w : List ℕ) (a b : ℕ) → s ≡ u ++ (a ∷ (v ++ (b ∷ w))) → keen g a ≡ true → live g b ≡ false → (some (keen g) w ≡ false) × (worst g e ≡ 0)
untangled_from g e s h u v w a b is k l =
    let c = scan_clear (hot g) (live g) (ltb 0 (worst g e)) s h u v w a b is (warm a k) l in
    let z = c.1 in
    (some_less (keen g) (hot g) w cold c.0, grind (arith, nat_tests))
  where
    warm : (a : ℕ) → keen g a ≡ true → hot g a ≡ true
    warm a k = let c = and_parts (live g a) (unmarked g a) k in and_from (live g a) (transfer g a) c.0 (unmarked_transfer g a c.1)

    cold : (a : ℕ) → hot g a ≡ false → keen g a ≡ false
    cold a f = go (cases_Bool (keen g a))
      where
        go : (keen g a ≡ true) ⊎ (keen g a ≡ false) → keen g a ≡ false
        go (inl t) = absurd (both_ways (hot g a) f (warm a t))
        go (inr t) = t

-- the lowest tangled lot, and that a lot is tangled just where its scan says so
pub tangled_decides : (g : Yard) (i : ℕ) → Decides (tangled g i) (TangledLot g i)
unfolding tangled
tangled_decides g i =
    let d = Decides-and (whole g i) (scan (hot g) (live g) (late_end g i) false false false (path g i)) ((λ h. h), (λ h. h)) (scan_decides (hot g) (live g) (late_end g i) (path g i)) in
    ((λ h. let t = d.0 h in record { no_strike = t.0; way = t.1 }), (λ t. d.1 (t.no_strike, t.way)))

pub untangled_lot : (g : Yard) (i : ℕ) → tangled g i ≡ false → whole g i ≡ true → (u v w : List ℕ) (a b : ℕ) → path g i ≡ u ++ (a ∷ (v ++ (b ∷ w))) → keen g a ≡ true → live g b ≡ false
    → (some (keen g) w ≡ false) × (worst g (end g i) ≡ 0)
unfolding tangled
untangled_lot g i h wh = untangled_from g (end g i) (path g i) (sym (ap (λ (b : Bool). b && scan (hot g) (live g) (late_end g i) false false false (path g i)) wh) ∙ h)
