-- The column of bills, filled from the last event down.
use Rattle.std.proofs.Common.{◌≡◌, ℕ, ◌+◌, ◌-◌, ◌<◌, ◌≤◌, List, length, get_or, set, refl, ap, ◌∙◌, subst, arith, length-set}
use Rattle.tariff.specs.Prices.{Prices}
use Rattle.model.specs.Laws.{event_bill}
use Rattle.timetable.specs.declared.day.Day.{Day}
use Rattle.timetable.specs.Days.{yard_of}
use Rattle.timetable.proofs.Cells.{one_below, beyond}
use Rattle.bills.specs.Columns.{BilledFrom}

module _ {A : Type 0} (rule : ℕ → ℕ → ℕ) (p : Prices A) (d : Day) (cells : List A) (e : ℕ) (down : 0 < e) (b : BilledFrom p rule d cells e) where
  -- the bills past the event below e
  pub billed_past : BilledFrom p rule d cells ((e - 1) + 1)
  billed_past = let n : e ≡ (e - 1) + 1 = omega arith in subst (λ (k : ℕ). BilledFrom p rule d cells k) n b

  module _ (after : List A) (is : after ≡ set cells (e - 1) (event_bill p (yard_of rule d) (e - 1))) where
    pub same_length : length after ≡ length cells
    same_length = ap length is ∙ length-set cells (e - 1) (event_bill p (yard_of rule d) (e - 1))

    pub billed_more : e - 1 < length d.sheet.events.now → BilledFrom p rule d after (e - 1)
    billed_more w = record {
      room = omega (arith, same_length, b.room);
      holds = λ k h n.
          ap (λ (l : List A). get_or l k p.tolls.nought) is
          ∙ one_below p.tolls.nought cells (e - 1) _ (length d.sheet.events.now) (event_bill p (yard_of rule d)) (omega (arith, w, b.room)) (λ j above below. b.holds j (omega (arith, above, down)) below) refl k h n;
    }

    -- the cells past the events are as they were
    pub beyond_same : (old : List A) → e ≤ length d.sheet.events.now → ((other : A) (k : ℕ) → length d.sheet.events.now ≤ k → get_or cells k other ≡ get_or old k other)
        → (other : A) (k : ℕ) → length d.sheet.events.now ≤ k → get_or after k other ≡ get_or old k other
    beyond_same old w same other k h =
        ap (λ (l : List A). get_or l k other) is ∙ beyond other cells (e - 1) _ (length d.sheet.events.now) old (omega (arith, w, down)) (same other) k h
