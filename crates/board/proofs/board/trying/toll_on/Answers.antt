use Rattle.std.proofs.Common.{Some, None, sym, ◌∙◌, subst}
use Rattle.model.specs.Yard.{Yard}
use Rattle.planner.specs.Plans.{TollOfPlan}
use Rattle.board.proofs.Planning.{refusal_so, told_by}
use Rattle.board.proofs.board.trying.toll_on.Goals as goal

pub returns-in_err-plan_toll-clause-refuses : goal.returns-in_err-plan_toll-clause-refuses
returns-in_err-plan_toll-clause-refuses g c =
    let h = c.in_err-plan_toll.field-0.0 in
    told_by c.from_residual.result h c.from_residual.ensures.1
    ∙ refusal_so _ _ _ (Some h) (sym c.has_room.ensures ∙ c.if-not-has_room.false) (c.day_on-day.ensures.yard (g.R.Carry.hands c.args.rule.now)) c.in_err-plan_toll.ensures.refuses

pub returns-clause-refuses : goal.returns-clause-refuses
returns-clause-refuses g c =
    refusal_so _ _ _ None (sym c.has_room.ensures ∙ c.if-not-has_room.false) (c.day_on-day.ensures.yard (g.R.Carry.hands c.args.rule.now)) c.in_ok-plan_toll.ensures.refuses

pub returns-clause-toll : goal.returns-clause-toll
returns-clause-toll g c =
    subst (λ (x : Yard). TollOfPlan (g.T.Tariff.prices c.args.tariff.now) x c.in_ok-plan_toll.field-0) (c.day_on-day.ensures.yard (g.R.Carry.hands c.args.rule.now)) c.in_ok-plan_toll.ensures.toll
