use Rattle.std.proofs.Common.{◌≡◌, true, false, length, rules, refl}
use borrow.Author.Tests.{tests}
use Rattle.std.proofs.lemmas.List.{get_or_read}
use Rattle.std.proofs.lemmas.Iterator.{YieldsList-from_slice, IsFirst-from_position}
use Rattle.std.proofs.lemmas.Iterator.Adapters.{serves_from_places}
use Rattle.sheet.specs.declared.records.Lot.{Lot}
use Rattle.sheet.specs.Rules.{no_lot, stretch}
use Rattle.model.specs.Tangles.{tangled}
use Rattle.timetable.specs.Days.{yard_of}
use Rattle.timetable.specs.Parts.{LotOf, knotted}
use Rattle.timetable.proofs.Sources.{found_in}
use Rattle.timetable.proofs.Ways.{tangled_at}
use Rattle.timetable.proofs.forecast.Forecast.first_tangled.Goals as goal

pub position-requires-clause-callable : goal.position-requires-clause-callable
position-requires-clause-callable g c =
    let lots = c.args.self.now.day.sheet.lots.now in
    serves_from_places (YieldsList-from_slice lots cc) (λ x q k. search rules)
    (λ x k h e. let o : LotOf c.args.self.now.day x.now = record { number = k; within = h; is = get_or_read lots k x.now h e no_lot } in search rules)

pub returns : goal.returns
returns g c =
    let d = c.args.self.now.day in
    let y = yard_of (g.R.Carry.hands c.args.self.now.rule.now) d in
    let t = λ (lot : Lot). knotted y (stretch lot d.sheet.steps.now) in
    found_in (length d.sheet.lots.now) (tangled y) t d.sheet.lots.now no_lot refl (λ i h. tangled_at y i) c.position.result
    (IsFirst-from_position _ _ c.position.result (λ lot. t lot ≡ true) (λ lot. t lot ≡ false) c.position.ensures.ran (YieldsList-from_slice d.sheet.lots.now cc) (λ x q k. search (rules, tests)) (λ x q k. search (rules, tests)))
