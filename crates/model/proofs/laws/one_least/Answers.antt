use Rattle.model.proofs.Stands.{one_least}
use Rattle.model.proofs.laws.one_least.Goals as goal

pub returns : goal.returns
returns g c = one_least _ (g.met.R.Carry.lawful c.args.rule.now)
