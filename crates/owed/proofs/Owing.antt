-- The loop over the events with a noted delay, and the room for its sums: no lot counts twice in them all together.
use Rattle.std.proofs.Common.{◌≡◌, ℕ, zero, suc, ◌+◌, ◌<◌, ◌≤◌, Bool, true, false, ltb, List, length, get_or, sym, ap, ◌∙◌, add-one, arith}
use Rattle.std.proofs.lemmas.Bool.{lt-ltb, le-ltb, cond-true}
use Rattle.tariff.specs.Tolls.{Tolls, cap}
use Rattle.tariff.specs.Prices.{Prices, LawfulPrices}
use Rattle.sums.specs.Totals.{lots_weight}
use Rattle.model.specs.Yard.{event_count, noted}
use Rattle.model.specs.Lots.{lot_count}
use Rattle.model.specs.Tolls.{fares_of, plan_toll}
use Rattle.model.specs.Laws.{event_bill}
use Rattle.model.proofs.Rooms.{loop, lost_loop, PlanRoomy}
use Rattle.model.proofs.Bulks.{loop_is, plan_roomy}
use Rattle.model.proofs.Meets.{meets_nowhere}
use Rattle.model.proofs.OnSheets.{sound, orderly, weighed}
use Rattle.timetable.specs.declared.day.Day.{Day}
use Rattle.timetable.specs.Days.{sheet_on, delay_on, mark_on, yard_of}
use Rattle.timetable.specs.Parts.{lots_on}
use Rattle.timetable.proofs.Loops.{reported_on}
use Rattle.bills.specs.Columns.{Billed}
use Rattle.bills.proofs.Dues.{lots_light}
use Rattle.owed.specs.Owed.{by_strikes, by_bills, ClearlyBilled}
use Rattle.owed.proofs.Strikes.{strikes_same, strikes_loop}

-- an event has a noted delay, which no rule enters
abbrev pub delayed : Day → ℕ → Bool
delayed d e = ltb 0 (noted (lots_on d) e)

-- whether an event is delayed, by its cell
module _ (d : Day) (e : ℕ) (h : e < length d.sheet.events.now) where
  noted_cell : noted (lots_on d) e ≡ get_or d.delays.now e 0
  unfolding noted event_count
  noted_cell = cond-true (ltb e (length d.sheet.events.now)) (get_or d.delays.now e 0) 0 (lt-ltb e (length d.sheet.events.now) h)

  pub is_delayed : 0 < get_or d.delays.now e 0 → delayed d e ≡ true
  is_delayed w = lt-ltb 0 (noted (lots_on d) e) (omega (arith, w, noted_cell))

  pub not_delayed : get_or d.delays.now e 0 ≤ 0 → delayed d e ≡ false
  not_delayed w = le-ltb 0 (noted (lots_on d) e) (omega (arith, w, noted_cell))

-- two loops that add the same
loop_same : {A : Type 0} (p : Tolls A) (x y : A) (n : ℕ) (t : ℕ → Bool) (f h : ℕ → A) → x ≡ y → ((k : ℕ) → k < n → f k ≡ h k) → loop p x n t f ≡ loop p y n t h
unfolding loop
loop_same p x y zero t f h b s = b
loop_same p x y (suc n) t f h b s =
    let rest : loop p x n t f ≡ loop p y n t h = loop_same p x y n t f h b (λ i k. s i (omega arith)) in
    let here : f n ≡ h n = s n (omega arith) in
    cc

module _ {A : Type 0} (p : Prices A) (d : Day) (cells : List A) where
  abbrev pub cell : ℕ → A
  cell e = get_or cells e p.tolls.nought

  -- the sum once the events below k are passed
  abbrev pub summed : ℕ → A
  summed k = loop p.tolls (by_strikes p (lots_on d)) k (delayed d) cell

  pub sum_begun : (sum : A) → sum ≡ by_strikes p (lots_on d) → sum ≡ summed 0
  unfolding loop
  sum_begun sum s = s

  pub sum_more : (k : ℕ) (sum due : A) → delayed d k ≡ true → sum ≡ summed k → due ≡ cell k → p.tolls.plus sum due ≡ summed (k + 1)
  unfolding loop
  sum_more k sum due t s u = rw (add-one k, t) (ap (λ (x : A). p.tolls.plus x due) s ∙ ap (p.tolls.plus (summed k)) u)

  pub sum_skip : (k : ℕ) (sum : A) → delayed d k ≡ false → sum ≡ summed k → sum ≡ summed (k + 1)
  unfolding loop
  sum_skip k sum t s = rw (add-one k, t) s

  module _ (fair : LawfulPrices p) where
    -- what the whole loop comes to, by any rule under which the cells are the bills
    pub sum_done : (rule : ℕ → ℕ → ℕ) → Billed p rule d cells → (k : ℕ) (sum : A) → k ≡ length d.sheet.events.now → sum ≡ summed k → sum ≡ by_bills p (yard_of rule d)
    unfolding noted event_count plan_toll
    sum_done rule b k sum e s =
        s ∙ ap summed e
        ∙ loop_same p.tolls (by_strikes p (lots_on d)) (by_strikes p (yard_of rule d)) (length d.sheet.events.now) (delayed d) cell (event_bill p (yard_of rule d)) (strikes_same rule d p) (λ i w. b.holds i (omega arith) w)
        ∙ loop_is p.tolls fair.tolls (by_strikes p (yard_of rule d)) (length d.sheet.events.now) (delayed d) (event_bill p (yard_of rule d))

    module _ (c : ClearlyBilled p d cells) where
      plan_room : PlanRoomy (yard_of c.rule d) p.tolls (fares_of p (yard_of c.rule d)) (lots_weight d.sheet.lots.now)
      unfolding lot_count
      plan_room =
          let t = sheet_on d in
          let delay = delay_on d.delays.now in
          let mark = mark_on d.marks.now d.trial in
          let y = yard_of c.rule d in
          let so = sound t c.rule delay mark d.sheet.kept c.lawful in
          let n = (meets_nowhere y so).0 c.clear.no_meeting in
          let reported = reported_on c.rule d in
          let o = orderly t c.rule delay mark p d.sheet.kept c.lawful fair reported c.clear in
          plan_roomy p.tolls fair.tolls y (fares_of p y) d.sheet.period _ so n o (weighed t c.rule delay mark p d.sheet.kept c.lawful fair reported)

      -- the sum is that of the model's loop under the rule
      summed_so : (k : ℕ) → k ≤ length d.sheet.events.now → summed k ≡ loop p.tolls (lost_loop (yard_of c.rule d) p.tolls (fares_of p (yard_of c.rule d)) (lot_count (yard_of c.rule d))) k (delayed d) (event_bill p (yard_of c.rule d))
      summed_so k h =
          loop_same p.tolls _ _ k (delayed d) cell (event_bill p (yard_of c.rule d))
          (strikes_same c.rule d p ∙ sym (strikes_loop (yard_of c.rule d) p fair))
          (λ i w. c.billed.holds i (omega arith) (omega arith))

      pub add_room : (k : ℕ) (sum due : A) → k < length d.sheet.events.now → delayed d k ≡ true → sum ≡ summed k → due ≡ cell k → p.tolls.bulk sum + p.tolls.bulk due ≤ cap
      unfolding noted event_count
      add_room k sum due h t s u =
          omega (arith, plan_room.roots.room k h t, lots_light d, ap p.tolls.bulk (s ∙ summed_so k (omega arith)), ap p.tolls.bulk (u ∙ c.billed.holds k (omega arith) h))
