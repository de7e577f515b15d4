-- The loop over the activities into an event, and the one over the events.
use Rattle.std.proofs.Common.{◌≡◌, ℕ, ◌+◌, ◌<◌, ◌≤◌, max, cond, eqb, ltb, length, get_or, sym, ap, ◌∙◌, add-one, arith}
use Rattle.std.proofs.lemmas.Bool.{lt-ltb, eq-eqb, ne_eqb, cond-true, cond-false}
use Rattle.sheet.specs.Rules.{activity_at}
use Rattle.carry.specs.Laws.{LawfulRule}
use Rattle.model.specs.Yard.{event_count, activity_count, tail, head, handed, noted}
use Rattle.model.specs.Laws.{Reported}
use Rattle.model.specs.Finite.{top}
use Rattle.model.specs.Lateness.{Choice, binds, brings, least, all_wait, worst}
use Rattle.model.proofs.Lateness.{least_is, least_least}
use Rattle.model.proofs.OnSheets.{sound, period_most}
use Rattle.timetable.specs.declared.day.Day.{Day}
use Rattle.timetable.specs.Days.{sheet_on, delay_on, mark_on, yard_of}
use Rattle.timetable.proofs.Stances.{leads}

-- a greatest so far, one more
pub top_none : (x : ℕ) (f : ℕ → ℕ) → x ≡ max x (top 0 f)
unfolding top
top_none x f = omega arith

pub top_more : (most own i : ℕ) (f : ℕ → ℕ) → most ≡ max own (top i f) → max most (f i) ≡ max own (top (i + 1) f)
unfolding top
top_more most own i f h = rw (add-one, h) (omega arith)

pub top_skip : (most own i : ℕ) (f : ℕ → ℕ) → f i ≡ 0 → most ≡ max own (top i f) → most ≡ max own (top (i + 1) f)
unfolding top
top_skip most own i f z h = rw (add-one, z, h) (omega arith)

module _ (rule : ℕ → ℕ → ℕ) (d : Day) (lawful : LawfulRule rule) (z : Choice) where
  -- an activity leads from a lower to a higher event of the sheet
  pub ordered : (a : ℕ) → a < length d.sheet.activities.now → ((activity_at d.sheet.activities.now a).tail < (activity_at d.sheet.activities.now a).head) × ((activity_at d.sheet.activities.now a).head < length d.sheet.events.now)
  ordered a h = leads d a h

  noted_is : (e : ℕ) → e < length d.sheet.events.now → noted (yard_of rule d) e ≡ get_or d.delays.now e 0
  unfolding noted event_count
  noted_is e h = cond-true (ltb e (length d.sheet.events.now)) (get_or d.delays.now e 0) 0 (lt-ltb e (length d.sheet.events.now) h)

  pub least_so : (e : ℕ) → e < length d.sheet.events.now → max (get_or d.delays.now e 0) (top (length d.sheet.activities.now) (brings (yard_of rule d) z (least (yard_of rule d) z) e)) ≡ least (yard_of rule d) z e
  unfolding activity_count
  least_so e h =
      sym (least_is (yard_of rule d) (sound (sheet_on d) rule (delay_on d.delays.now) (mark_on d.marks.now d.trial) d.sheet.kept lawful) z e
      ∙ ap (λ (x : ℕ). max x (top (length d.sheet.activities.now) (brings (yard_of rule d) z (least (yard_of rule d) z) e))) (noted_is e h))

  -- what an activity brings to its head, and to no other event
  pub brings_here : (e a : ℕ) → (activity_at d.sheet.activities.now a).head ≡ e
      → brings (yard_of rule d) z (least (yard_of rule d) z) e a ≡ cond (binds (yard_of rule d) z a) (handed (yard_of rule d) a (least (yard_of rule d) z (activity_at d.sheet.activities.now a).tail)) 0
  unfolding head tail
  brings_here e a h = cond-true (eqb (activity_at d.sheet.activities.now a).head e) _ 0 (eq-eqb _ e h)

  pub brings_elsewhere : (e a : ℕ) → ((activity_at d.sheet.activities.now a).head ≡ e → ⊥) → brings (yard_of rule d) z (least (yard_of rule d) z) e a ≡ 0
  unfolding head
  brings_elsewhere e a h = cond-false (eqb (activity_at d.sheet.activities.now a).head e) _ 0 (ne_eqb _ e h)

  -- no event is later than the period
  pub least_short : (e : ℕ) → least (yard_of rule d) z e ≤ 1440
  unfolding event_count
  least_short e =
      let so = sound (sheet_on d) rule (delay_on d.delays.now) (mark_on d.marks.now d.trial) d.sheet.kept lawful in
      let p = period_most (sheet_on d) d.sheet.kept in
      let m = least_least (yard_of rule d) so z (λ k. d.sheet.period) (record { own = λ k w. own k w; next = λ a w b. so.under a d.sheet.period }) e in
      omega arith
    where
      own : (k : ℕ) → k < event_count (yard_of rule d) → noted (yard_of rule d) k ≤ d.sheet.period
      own k w = let n = noted_is k w in let q = d.timely k w in omega arith

-- every noted delay is at most the period
pub reported_on : (rule : ℕ → ℕ → ℕ) (d : Day) → Reported (yard_of rule d)
unfolding noted event_count
reported_on rule d e h = let n = cond-true (ltb e (length d.sheet.events.now)) (get_or d.delays.now e 0) 0 (lt-ltb e (length d.sheet.events.now) h) in omega (arith, n, d.timely e h)

pub worst_short : (rule : ℕ → ℕ → ℕ) (d : Day) → LawfulRule rule → (e : ℕ) → worst (yard_of rule d) e ≤ 1440
unfolding worst
worst_short rule d lawful e = least_short rule d lawful all_wait e
