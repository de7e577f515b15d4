-- Room for every sum that a bill forms: no lot counts twice in it.
use Rattle.std.proofs.Common.{◌≡◌, ℕ, ◌+◌, ◌<◌, ◌≤◌, Bool, true, false, cond, ◌&&◌, eqb, List, length, get_or, sym, ap, ◌∙◌, add-one, arith}
use Rattle.carry.specs.Laws.{LawfulRule}
use Rattle.tariff.specs.Prices.{Prices, LawfulPrices}
use Rattle.sums.specs.Totals.{lots_weight}
use Rattle.sheet.specs.Rules.{activity_at}
use Rattle.tariff.specs.Tolls.{cap}
use Rattle.model.specs.Yard.{activity_count, tail, head}
use Rattle.model.specs.Meeting.{live}
use Rattle.model.specs.Lots.{lot_count}
use Rattle.model.specs.Tolls.{fares_of, late_lots}
use Rattle.model.specs.Laws.{Clear, event_bill}
use Rattle.model.proofs.Rooms.{loop, acts_loop, BillRoomy}
use Rattle.model.proofs.Bulks.{loop_is, bill_roomy}
use Rattle.model.proofs.Meets.{meets_nowhere}
use Rattle.model.proofs.OnSheets.{sound, orderly, weighed}
use Rattle.timetable.specs.declared.day.Day.{Day}
use Rattle.timetable.specs.Days.{sheet_on, delay_on, mark_on, yard_of}
use Rattle.timetable.proofs.Loops.{reported_on}
use Rattle.timetable.proofs.Stances.{decided, unmarked_by, leads}
use Rattle.timetable.specs.declared.day.stance.Stance.{Stance}
use Rattle.timetable.specs.Days.{stance_at}
use Rattle.bills.specs.Columns.{at_event, over_transfer, lesser, BilledFrom}
use Rattle.bills.proofs.Dues.{lots_light}
use Rattle.std.proofs.lemmas.Bool.{and_parts, eqb-true, eq-eqb, ne_eqb, cond-true, cond-false}

-- whether an activity goes on from an event, by its tail
module _ (rule : ℕ → ℕ → ℕ) (d : Day) (e a from : ℕ) (is : from ≡ (activity_at d.sheet.activities.now a).tail) where
  pub leaves : (on : Bool) → from ≡ e → on ≡ live (yard_of rule d) a → on ≡ (eqb (tail (yard_of rule d) a) e && live (yard_of rule d) a)
  unfolding tail
  leaves on h l = l ∙ sym (ap (λ (b : Bool). b && live (yard_of rule d) a) (eq-eqb (activity_at d.sheet.activities.now a).tail e (sym is ∙ h)))

  pub stays : (from ≡ e → ⊥) → eqb from e ≡ (eqb (tail (yard_of rule d) a) e && live (yard_of rule d) a)
  unfolding tail
  stays h = ne_eqb from e h ∙ sym (ap (λ (b : Bool). b && live (yard_of rule d) a) (ne_eqb (activity_at d.sheet.activities.now a).tail e (λ k. h (is ∙ k))))

-- what an activity adds, by how it stands
module _ {A : Type 0} (rule : ℕ → ℕ → ℕ) (p : Prices A) (d : Day) (a : ℕ) (s : Stance) (is : s ≡ stance_at d.sheet.activities.now d.marks.now d.trial a) (wait : A) where
  pub lesser_open : (miss : A) → decided s ≡ true → miss ≡ over_transfer p (yard_of rule d) a → cond (p.tolls.at_most miss wait) miss wait ≡ lesser p (yard_of rule d) a wait
  lesser_open miss o m =
      ap (λ (x : A). cond (p.tolls.at_most x wait) x wait) m
      ∙ sym (cond-true _ (cond (p.tolls.at_most (over_transfer p (yard_of rule d) a) wait) (over_transfer p (yard_of rule d) a) wait) wait (unmarked_by rule d a ∙ sym (ap decided is) ∙ o))

  pub lesser_bound : decided s ≡ false → wait ≡ lesser p (yard_of rule d) a wait
  lesser_bound o = sym (cond-false _ (cond (p.tolls.at_most (over_transfer p (yard_of rule d) a) wait) (over_transfer p (yard_of rule d) a) wait) wait (unmarked_by rule d a ∙ sym (ap decided is) ∙ o))

module _ {A : Type 0} (rule : ℕ → ℕ → ℕ) (p : Prices A) (d : Day) (lawful : LawfulRule rule) (fair : LawfulPrices p) (clear : Clear (yard_of rule d)) where
  -- an activity leaves an event and is live, and what it then adds
  abbrev goes_on : ℕ → ℕ → Bool
  goes_on e a = eqb (tail (yard_of rule d) a) e && live (yard_of rule d) a

  abbrev adds : ℕ → A
  adds a = lesser p (yard_of rule d) a (event_bill p (yard_of rule d) (head (yard_of rule d) a))

  pub bill_room : (e : ℕ) → BillRoomy (yard_of rule d) p.tolls (fares_of p (yard_of rule d)) (lots_weight d.sheet.lots.now) e
  unfolding lot_count
  bill_room e =
      let t = sheet_on d in
      let delay = delay_on d.delays.now in
      let mark = mark_on d.marks.now d.trial in
      let g = yard_of rule d in
      let so = sound t rule delay mark d.sheet.kept lawful in
      let n = (meets_nowhere g so).0 clear.no_meeting in
      let reported = reported_on rule d in
      let o = orderly t rule delay mark p d.sheet.kept lawful fair reported clear in
      bill_roomy p.tolls fair.tolls g (fares_of p g) d.sheet.period _ so n o (weighed t rule delay mark p d.sheet.kept lawful fair reported) e

  -- the loop over the activities that leave an event: what it starts from, and one activity more
  abbrev so_far : ℕ → ℕ → A
  so_far e k = acts_loop (yard_of rule d) p.tolls (fares_of p (yard_of rule d)) e k

  pub bill_begun : (e : ℕ) → at_event p (yard_of rule d) e ≡ so_far e 0
  unfolding late_lots loop
  bill_begun e = sym (loop_is p.tolls fair.tolls p.tolls.nought (lot_count (yard_of rule d)) _ _ ∙ fair.tolls.neutral _)

  pub bill_more : (e k : ℕ) (sum due : A) → goes_on e k ≡ true → sum ≡ so_far e k → due ≡ adds k → p.tolls.plus sum due ≡ so_far e (k + 1)
  unfolding loop
  bill_more e k sum due t s u = rw (add-one k, t) (ap (λ (x : A). p.tolls.plus x due) s ∙ ap (p.tolls.plus (so_far e k)) u)

  pub bill_skip : (e k : ℕ) (sum : A) → goes_on e k ≡ false → sum ≡ so_far e k → sum ≡ so_far e (k + 1)
  unfolding loop
  bill_skip e k sum t s = rw (add-one k, t) s

  pub add_room : (e k : ℕ) (sum due : A) → k < length d.sheet.activities.now → goes_on e k ≡ true → sum ≡ so_far e k → due ≡ adds k → p.tolls.bulk sum + p.tolls.bulk due ≤ cap
  unfolding activity_count
  add_room e k sum due h t s u =
      omega (arith, (bill_room e).acts.room k h t, lots_light d, ap p.tolls.bulk s, ap p.tolls.bulk u)

  pub bill_done : (e k : ℕ) (sum : A) → k ≡ length d.sheet.activities.now → sum ≡ so_far e k → sum ≡ event_bill p (yard_of rule d) e
  unfolding activity_count
  bill_done e k sum h s = s ∙ ap (so_far e) h ∙ (bill_room e).is

  -- the head of an activity that goes on from e lies after e, and so is billed already
  head_billed : (e k from : ℕ) (cells : List A) → BilledFrom p rule d cells (e + 1) → k < length d.sheet.activities.now → goes_on e k ≡ true → from ≡ (activity_at d.sheet.activities.now k).head
      → get_or cells from p.tolls.nought ≡ event_bill p (yard_of rule d) (head (yard_of rule d) k)
  unfolding head tail
  head_billed e k from cells b h t is =
      let l = leads d k h in
      let u = eqb-true (activity_at d.sheet.activities.now k).tail e (and_parts _ _ t).0 in
      b.holds from (omega (arith, l.0, u, is)) (omega (arith, l.1, is)) ∙ ap (event_bill p (yard_of rule d)) is

  pub due_so : (e k from : ℕ) (cells : List A) (wait due : A) → BilledFrom p rule d cells (e + 1) → k < length d.sheet.activities.now → goes_on e k ≡ true → from ≡ (activity_at d.sheet.activities.now k).head
      → wait ≡ get_or cells from p.tolls.nought → due ≡ lesser p (yard_of rule d) k wait → due ≡ adds k
  due_so e k from cells wait due b h t is w u = u ∙ ap (lesser p (yard_of rule d) k) (w ∙ head_billed e k from cells b h t is)
