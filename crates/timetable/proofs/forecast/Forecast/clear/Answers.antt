use Rattle.std.proofs.Common.{Some, None, sym, ◌∙◌}
use Rattle.timetable.proofs.Hindrances.{by_meeting, by_tangle}
use Rattle.timetable.proofs.forecast.Forecast.clear.Goals as goal

pub returns-in-Some : goal.returns-in-Some
returns-in-Some g c = by_meeting (g.R.Carry.hands c.args.self.now.rule.now) c.args.self.now.day c.in-Some.event (sym c.in-Some.is ∙ c.first_meeting.ensures)

pub returns-in-Some-first_tangled : goal.returns-in-Some-first_tangled
returns-in-Some-first_tangled g c =
    by_tangle (g.R.Carry.hands c.args.self.now.rule.now) c.args.self.now.day (Some c.in-Some-first_tangled.lot) (sym c.in_default.is ∙ c.first_meeting.ensures) (sym c.in-Some-first_tangled.is ∙ c.first_tangled.ensures)

pub returns : goal.returns
returns g c = by_tangle (g.R.Carry.hands c.args.self.now.rule.now) c.args.self.now.day None (sym c.in_default.is ∙ c.first_meeting.ensures) (sym c.in_default-first_tangled.is ∙ c.first_tangled.ensures)
