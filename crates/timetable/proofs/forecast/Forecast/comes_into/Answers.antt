use Rattle.std.proofs.Common.{◌∙◌}
use Rattle.std.proofs.lemmas.Bool.{eq-eqb, ne_eqb}
use Rattle.timetable.proofs.Sources.{into_head, into_elsewhere}
use Rattle.timetable.proofs.forecast.Forecast.comes_into.Goals as goal

pub returns-then-from-e : goal.returns-then-from-e
returns-then-from-e g c = c.is_live.ensures ∙ into_head (g.R.Carry.hands c.args.self.now.rule.now) c.args.self.now.day c.args.e c.args.a c.from.result c.from.ensures (eq-eqb c.from.result c.args.e c.if-from-e.true)

pub returns-else-from-e : goal.returns-else-from-e
returns-else-from-e g c = into_elsewhere (g.R.Carry.hands c.args.self.now.rule.now) c.args.self.now.day c.args.e c.args.a c.from.result c.from.ensures (ne_eqb c.from.result c.args.e c.if-from-e.false)
