-- The bytes that are written hold the choice by bills.
use Rattle.std.proofs.Common.{◌≡◌, ℕ, ◌<◌, ◌≤◌, Bool, true, false, cond, not, ◌&&◌, eqb, ltb, ◌⊎◌, List, get_or, sym, refl, ap, ◌∙◌, inl, inr, arith}
use Rattle.std.proofs.lemmas.Bool.{cases_eq, eq-eqb, ne_eqb, lt-ltb, le-ltb, both_ways}
use Rattle.tariff.specs.Prices.{Prices}
use Rattle.model.specs.declared.mark.Mark.{Mark}
use Rattle.model.specs.declared.mark.Mark.TheVariants.{Unmarked, Held, Struck}
use Rattle.model.specs.Yard.{Yard, event_count, activity_count, tail, head, transfer, struck, unmarked, is_struck, is_unmarked}
use Rattle.model.specs.Lateness.{Choice, binds, least}
use Rattle.model.specs.Meeting.{live}
use Rattle.model.specs.Tolls.{fares_of, Planned}
use Rattle.model.specs.Laws.{ByBills, event_bill}
use Rattle.model.proofs.Ground.{Sound}
use Rattle.model.proofs.Lateness.{least_lawful, least_least}
use Rattle.model.proofs.Planned.{lean, planned, same_least, lean_is, planned_at, planned_is}
use Rattle.timetable.specs.Parts.{waits_by}
use Rattle.bills.specs.Columns.{over_transfer}
use Rattle.choice.specs.Chosen.{byte, on_time, cheap, unless_cheap, Chosen}

-- an unmarked transfer is not struck
apart : (t : Bool) (m : Mark) → (t && is_unmarked m) ≡ true → (t && is_struck m) ≡ false
apart false m h = refl
apart true Unmarked h = refl
apart true Held h = refl
apart true Struck h = sym h

module _ (g : Yard) where
  unstruck_open : (a : ℕ) → unmarked g a ≡ true → struck g a ≡ false
  unfolding unmarked struck
  unstruck_open a h = apart (transfer g a) (g.mark a) h

  -- at an unmarked transfer the choice decides
  open_binds : (z : Choice) (a : ℕ) → unmarked g a ≡ true → binds g z a ≡ z a
  open_binds z a h = ap (λ (s : Bool). cond s false (cond (unmarked g a) (z a) true)) (unstruck_open a h) ∙ ap (λ (u : Bool). cond u (z a) true) h

  -- bytes that say what binds say the same choice
  by_byte : (s u w : Bool) (n : ℕ) → n ≡ byte (cond s false (cond u w true)) → cond s false (cond u (eqb n 0) true) ≡ cond s false (cond u w true)
  by_byte true u w n e = refl
  by_byte false false w n e = refl
  by_byte false true true n e = ap (λ (k : ℕ). eqb k 0) e
  by_byte false true false n e = ap (λ (k : ℕ). eqb k 0) e

  binds_agree : (z : Choice) (gone : List ℕ) (a : ℕ) → get_or gone a 0 ≡ byte (binds g z a) → binds g (waits_by gone) a ≡ binds g z a
  binds_agree z gone a e = by_byte (struck g a) (unmarked g a) (z a) (get_or gone a 0) e

  module _ (so : Sound g) where
    -- lateness is least for what binds
    least_below : (z x : Choice) → ((a : ℕ) → a < activity_count g → binds g x a ≡ binds g z a) → (e : ℕ) → least g z e ≤ least g x e
    least_below z x h =
        let l = least_lawful g so x in
        least_least g so z (least g x) (record { own = l.own; next = λ a w b. l.next a w (h a w ∙ b) })

    pub least_agree : (z x : Choice) → ((a : ℕ) → a < activity_count g → binds g z a ≡ binds g x a) → (e : ℕ) → least g z e ≡ least g x e
    least_agree z x h e = omega (arith, least_below z x (λ a w. sym (h a w)) e, least_below x z h e)

    -- the same by bytes
    pub least_by : (z : Choice) (gone : List ℕ) → ((a : ℕ) → a < activity_count g → get_or gone a 0 ≡ byte (binds g z a)) → (e : ℕ) → least g (waits_by gone) e ≡ least g z e
    least_by z gone h = least_agree (waits_by gone) z (λ a w. binds_agree z gone a (h a w))

-- a number is above 0 where it is not 0
above : (t : ℕ) → ltb 0 t ≡ not (eqb t 0)
above t = go (cases_eq t 0)
  where
    go : (t ≡ 0) ⊎ (t ≡ 0 → ⊥) → ltb 0 t ≡ not (eqb t 0)
    go (inl e) = le-ltb 0 t (omega arith) ∙ sym (ap not (eq-eqb t 0 e))
    go (inr ne) = lt-ltb 0 t (omega arith) ∙ sym (ap not (ne_eqb t 0 ne))

-- a byte 1 is taken back where the tail is on time
taken_back : (s u on low b : Bool) → (u ≡ true → s ≡ false) → cond (u && b) 0 (byte (cond s false (cond u (not (on && low)) true))) ≡ byte (cond s false (cond u (not (on && (not b && low))) true))
taken_back s false on low b x = refl
taken_back true true on low b x = absurd (both_ways true (x refl) refl)
taken_back false true true low true x = refl
taken_back false true false low true x = refl
taken_back false true on low false x = refl

module _ {A : Type 0} (g : Yard) (p : Prices A) (so : Sound g) where
  abbrev bold : Choice
  bold = lean g p.tolls (fares_of p g) so

  abbrev plan : Choice
  plan = planned g p.tolls (fares_of p g) so

  bold_bytes : (first : List ℕ) (a : ℕ) → get_or first a 0 ≡ byte (binds g (unless_cheap p g) a) → get_or first a 0 ≡ byte (binds g bold a)
  bold_bytes first a e = e ∙ ap (λ (b : Bool). byte (cond (struck g a) false (cond (unmarked g a) b true))) (sym (lean_is g p.tolls (fares_of p g) so a))

  module _ (first gone late : List ℕ)
      (cheaply : (a : ℕ) → a < activity_count g → get_or first a 0 ≡ byte (binds g (unless_cheap p g) a))
      (least_first : (e : ℕ) → e < event_count g → get_or late e 0 ≡ least g (waits_by first) e)
      (settled : (a : ℕ) → a < activity_count g → get_or gone a 0 ≡ cond (on_time g late a) 0 (get_or first a 0))
    where
      late_bold : (e : ℕ) → e < event_count g → get_or late e 0 ≡ least g bold e
      late_bold e h = least_first e h ∙ least_by g so bold first (λ a w. bold_bytes first a (cheaply a w)) e

      plan_byte : (a : ℕ) → a < activity_count g → get_or gone a 0 ≡ byte (binds g plan a)
      plan_byte a w =
          let b = eqb (get_or late (tail g a) 0) 0 in
          let low = cheap p g a in
          let before = so.before a w in
          let within = so.within a w in
          let t : get_or late (tail g a) 0 ≡ least g bold (tail g a) = late_bold (tail g a) (omega arith) in
          let q : not (live g a && (not b && low)) ≡ plan a = ap (λ (x : Bool). not (live g a && (x && low))) (sym (above (get_or late (tail g a) 0)) ∙ ap (ltb 0) t) ∙ sym (planned_at g p.tolls (fares_of p g) so a) in
          settled a w
          ∙ ap (cond (unmarked g a && b) 0) (cheaply a w)
          ∙ taken_back (struck g a) (unmarked g a) (live g a) low b (unstruck_open g a)
          ∙ ap (λ (x : Bool). byte (cond (struck g a) false (cond (unmarked g a) x true))) q

      plan_least : (e : ℕ) → least g (waits_by gone) e ≡ least g plan e
      plan_least = least_by g so plan gone plan_byte

      by_bills : ByBills p g (waits_by gone)
      unfolding Planned
      by_bills a w u =
          sym (open_binds g (waits_by gone) a u)
          ∙ binds_agree g plan gone a (plan_byte a w)
          ∙ open_binds g plan a u
          ∙ planned_is g p.tolls (fares_of p g) so a w u
          ∙ ap (λ (n : ℕ). not (live g a && (ltb 0 n && p.tolls.at_most (over_transfer p g a) (event_bill p g (head g a))))) (sym (plan_least (tail g a)))

      pub chosen : Chosen p g late gone
      chosen = record {
        choice = by_bills;
        lateness = λ e h. late_bold e h ∙ sym (same_least g p.tolls (fares_of p g) so e) ∙ sym (plan_least e);
        bytes = λ a w. plan_byte a w ∙ ap byte (sym (binds_agree g plan gone a (plan_byte a w)));
      }
