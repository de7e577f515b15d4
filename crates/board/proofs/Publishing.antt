-- A plan under deduct and parcel-minutes, in the words of the published model.
use Rattle.std.proofs.Common.{ℕ, List, IfOk, Ok, Err, Result, ◌∙◌}
use Rattle.carry.specs.Handed.{deducted}
use Rattle.tariff.specs.Minutes.{by_minutes}
use Rattle.model.proofs.Stands.{lawful_by_deduct, minutes_toll}
use Rattle.timetable.specs.Parts.{waits_by}
use Rattle.tolls.specs.Written.{minutes_in}
use Rattle.planner.specs.Plans.{PlanIn}
use Rattle.board.specs.declared.refusal.Refusal.{Refusal}
use Rattle.board.specs.Ledger.{Ledger, yard_on}
use Rattle.board.specs.Published.{PublishedPlan}

published : (l : Ledger) (late gone : List ℕ) (toll count : ℕ) → PlanIn by_minutes (yard_on deducted l) late gone toll count → PublishedPlan (yard_on deducted l) late gone toll
published l late gone toll count p =
    let z = waits_by gone in
    record {
      margins = (lawful_by_deduct l.sheet l.delay l.mark z (minutes_in late)).0 p.lateness.lawful;
      no_later = λ y h. p.lateness.no_later y ((lawful_by_deduct l.sheet l.delay l.mark z y).1 h);
      toll_is = p.toll_is ∙ minutes_toll l.sheet l.delay l.mark z (minutes_in late);
    }

pub published_so : (l : Ledger) (late gone : List ℕ) (r : Result (ℕ × ℕ) Refusal) → IfOk r (λ a. PlanIn by_minutes (yard_on deducted l) late gone a.0 a.1) → IfOk r (λ a. PublishedPlan (yard_on deducted l) late gone a.0)
published_so l late gone (Ok a) m = published l late gone a.0 a.1 m
published_so l late gone (Err e) m = m
