use Rattle.model.proofs.Stands.{within_reserves, reserve_alone}
use Rattle.model.proofs.laws.reserves_hold.Goals as goal

pub returns : goal.returns
returns g c =
    let rule = g.met.R.Carry.lawful c.args.rule.now in
    record { together = within_reserves _ rule; alone = reserve_alone _ rule }
