-- What lots pay, the bills, and the choice.
--
--   Fares        what the lot of a number pays where it ends late by so many minutes, and where it misses a connection
--   fares_of     the fares of a tariff's prices: a missed connection costs the period
--   pay, toll    what a lot pays under a choice and a lateness, and all lots together
--   late_lots    the late charges, at worst-timetable lateness, of the whole lots that end at an event
--   miss_bill    the miss charges of the whole lots through a transfer
--   bill         an event's bill: its late lots, and for each live activity leaving it the head's bill, or for an unmarked
--                transfer the lesser of that and its miss bill
--   Planned      the choice: an unmarked live transfer whose tail is late goes when its miss bill is at most its head's bill,
--                and every other unmarked transfer waits
--   plan_toll    the struck lots' charges and the bills of the events with a noted delay
use Rattle.std.specs.Prelude.{◌≡◌, ℕ, suc, ◌-◌, ◌<◌, Bool, true, cond, not, ◌&&◌, ◌==◌, nat_eq, nat_lt}
use Rattle.tariff.specs.Tolls.{Tolls}
use Rattle.tariff.specs.Prices.{Prices}
use Rattle.sums.specs.Totals.{total}
use Rattle.model.specs.Yard.{Yard, event_count, activity_count, tail, head, noted, unmarked}
use Rattle.model.specs.Finite.{some, turns}
use Rattle.model.specs.Lateness.{Choice, least, worst}
use Rattle.model.specs.Meeting.{live}
use Rattle.model.specs.Lots.{lot_count, the_lot, path, end, whole, missed}

pub record Fares (A : Type 0) : Type 0 where
  pub late : ℕ → ℕ → A
  pub miss : ℕ → A

abbrev pub fares_of : {A : Type 0} → Prices A → Yard → Fares A
fares_of p g = record {
  late = λ i lateness. p.late (the_lot g i).class (the_lot g i).parcels lateness;
  miss = λ i. p.miss (the_lot g i).class (the_lot g i).parcels g.sheet.period;
}

-- x where the test passes, else nothing
abbrev pub given : {A : Type 0} → Tolls A → Bool → A → A
given p b x = cond b x p.nought

module _ {A : Type 0} (g : Yard) (p : Tolls A) (l : Fares A) where
  abbrev pub pay : Choice → (ℕ → ℕ) → ℕ → A
  pay z y i = cond (missed g z i) (l.miss i) (l.late i (y (end g i)))

  unfoldable pub toll : Choice → (ℕ → ℕ) → A
  toll z y = total p (lot_count g) (pay z y)

  unfoldable pub late_lots : ℕ → A
  late_lots e = total p (lot_count g) (λ i. given p (whole g i && end g i == e) (l.late i (worst g e)))

  unfoldable pub miss_bill : ℕ → A
  miss_bill a = total p (lot_count g) (λ i. given p (whole g i && some (λ b. nat_eq b a) (path g i)) (l.miss i))

  -- what an activity adds to its tail's bill, where x is its head's
  abbrev pub branch : ℕ → A → A
  branch a x = cond (unmarked g a) (cond (p.at_most (miss_bill a) x) (miss_bill a) x) x

  abbrev pub bill_step : (ℕ → A) → ℕ → A
  bill_step b e = p.plus (late_lots e) (total p (activity_count g) (λ a. given p (tail g a == e && live g a) (branch a (b (head g a)))))

  unfoldable pub bill : ℕ → A
  bill e = turns p.nought bill_step (suc (event_count g - e)) e

  unfoldable pub struck_charges : A
  struck_charges = total p (lot_count g) (λ i. given p (not (whole g i)) (l.miss i))

  unfoldable pub plan_toll : A
  plan_toll = p.plus struck_charges (total p (event_count g) (λ e. given p (nat_lt 0 (noted g e)) (bill e)))

  unfoldable pub Planned : Choice → Type 0
  Planned z = (a : ℕ) → a < activity_count g → unmarked g a ≡ true → z a ≡ not (live g a && (nat_lt 0 (least g z (tail g a)) && p.at_most (miss_bill a) (bill (head g a))))
