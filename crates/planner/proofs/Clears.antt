-- What was chosen where nothing stands in the way.
use Rattle.std.proofs.Common.{◌≡◌, ℕ, ◌≤◌, Bool, true, false, eqb, List, length, get_or, sym, ap, ◌∙◌, subst, arith}
use Rattle.carry.specs.Laws.{LawfulRule}
use Rattle.tariff.specs.Prices.{Prices, LawfulPrices}
use Rattle.model.specs.Yard.{event_count, activity_count, tail, head, handed}
use Rattle.model.specs.Lateness.{Least, least}
use Rattle.model.specs.Laws.{Clear, cost}
use Rattle.model.proofs.Lateness.{least_one}
use Rattle.model.proofs.OnSheets.{sound}
use Rattle.model.proofs.Stands.{no_rival_cheaper, toll_by_bills}
use Rattle.timetable.specs.declared.day.Day.{Day}
use Rattle.timetable.specs.Days.{sheet_on, delay_on, mark_on, yard_of}
use Rattle.timetable.specs.Parts.{waits_by}
use Rattle.timetable.proofs.Loops.{least_short, reported_on}
use Rattle.owed.specs.Owed.{by_bills}
use Rattle.tolls.specs.Written.{Written, minutes_in}
use Rattle.tolls.proofs.Paid.{binds_same, cost_same}
use Rattle.choice.specs.Chosen.{byte, gone_count, Chosen}
use Rattle.planner.specs.Plans.{PlanIn, TollOfPlan}

module _ {A : Type 0} (rule : ℕ → ℕ → ℕ) (d : Day) (p : Prices A) (lawful : LawfulRule rule) (fair : LawfulPrices p) (late gone : List ℕ) (c : Chosen p (yard_of rule d) late gone) where
  byte_waits : (b : Bool) (n : ℕ) → n ≡ byte b → eqb n 0 ≡ b
  byte_waits true n e = ap (λ (k : ℕ). eqb k 0) e
  byte_waits false n e = ap (λ (k : ℕ). eqb k 0) e

  -- what was chosen can be charged
  pub written_so : length d.sheet.events.now ≤ length late → length d.sheet.activities.now ≤ length gone → Written d late gone
  unfolding event_count activity_count
  written_so l m = record {
    late_room = l;
    gone_room = m;
    short = λ e h. omega (arith, c.lateness e h, least_short rule d lawful (waits_by gone) e);
    tells = λ a h. byte_waits _ (get_or gone a 0) (c.bytes a h) ∙ sym (binds_same rule d (waits_by gone) a);
  }

  -- the table holds the least lawful lateness
  least_so : Least (yard_of rule d) (waits_by gone) (minutes_in late)
  unfolding event_count activity_count
  least_so =
      let g = yard_of rule d in
      let so = sound (sheet_on d) rule (delay_on d.delays.now) (mark_on d.marks.now d.trial) d.sheet.kept lawful in
      let l = least_one g so (waits_by gone) in
      record {
        lawful = record {
          own = λ e h. omega (arith, c.lateness e h, l.lawful.own e h);
          next = λ a h b.
              let before = so.before a h in
              let within = so.within a h in
              let from = c.lateness (tail g a) (omega arith) in
              let to = c.lateness (head g a) within in
              omega (arith, ap (handed g a) from, to, l.lawful.next a h b);
        };
        no_later = λ x lx e h. omega (arith, c.lateness e h, l.no_later x lx e h);
      }

  pub plan_so : Clear (yard_of rule d) → (toll : A) (count : ℕ) → toll ≡ cost p (yard_of rule d) (waits_by gone) (minutes_in late) → count ≡ gone_count (yard_of rule d) gone → PlanIn p (yard_of rule d) late gone toll count
  unfolding event_count
  plan_so clear toll count t n = record {
    bytes = c.bytes;
    choice = c.choice;
    lateness = least_so;
    toll_is = t;
    cheapest = λ x y ly.
        let same = t ∙ cost_same rule d p (waits_by gone) (minutes_in late) (least (yard_of rule d) (waits_by gone)) fair c.lateness in
        subst (λ (u : A). p.tolls.at_most u (cost p (yard_of rule d) x y) ≡ true) (sym same)
        (no_rival_cheaper rule p lawful fair (sheet_on d) (delay_on d.delays.now) (mark_on d.marks.now d.trial) d.sheet.kept (reported_on rule d) clear (waits_by gone) c.choice x y ly);
    count_is = n;
  }

-- the toll by bills is that of every plan
pub toll_so : {A : Type 0} (rule : ℕ → ℕ → ℕ) (d : Day) (p : Prices A) → LawfulRule rule → LawfulPrices p → Clear (yard_of rule d) → (toll : A) → toll ≡ by_bills p (yard_of rule d) → TollOfPlan p (yard_of rule d) toll
toll_so rule d p lawful fair clear toll t = record {
  by_bills_is = t;
  as_planned = λ z b. t ∙ sym (toll_by_bills rule p lawful fair (sheet_on d) (delay_on d.delays.now) (mark_on d.marks.now d.trial) d.sheet.kept (reported_on rule d) clear z b);
}
