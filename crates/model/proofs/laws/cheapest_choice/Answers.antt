use Rattle.model.proofs.Stands.{a_choice, no_rival_cheaper, toll_by_bills, light_bills}
use Rattle.model.proofs.laws.cheapest_choice.Goals as goal

pub returns : goal.returns
returns g c =
    let rule = g.met.R.Carry.lawful c.args.rule.now in
    let fair = g.met.T.Tariff.lawful c.args.tariff.now in
    let p = g.T.Tariff.prices c.args.tariff.now in
    record { choice = a_choice _ p rule; cheapest = no_rival_cheaper _ p rule fair; toll = toll_by_bills _ p rule fair; light = light_bills _ p rule fair }
