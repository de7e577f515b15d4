use Rattle.std.proofs.Common.{length, Some, None, sym, ap, ◌∙◌, subst, arith}
use Rattle.sheet.specs.Sheets.{tables_of}
use Rattle.model.specs.Yard.{Yard}
use Rattle.planner.specs.Plans.{PlanIn}
use Rattle.board.proofs.Planning.{roomy, refusal_so, told_by}
use Rattle.board.proofs.board.Board.plan.Goals as goal

pub plan-requires : goal.plan-requires
plan-requires g c =
    let y = c.day.ensures.yard (g.R.Carry.hands c.args.rule.now) in
    let e = ap (λ (x : Yard). length x.sheet.events) y in
    let a = ap (λ (x : Yard). length x.sheet.activities) y in
    let r = roomy (tables_of c.args.self.now.sheet) (length c.args.work.now.worst.now) (length c.args.work.now.bills.now) (length c.args.tables.now.late.now) (length c.args.tables.now.gone.now) (sym c.has_room.ensures ∙ c.if-not-has_room.false) in
    record {
      work = (omega (arith, e, r.worst), omega (arith, e, r.cells));
      room = (omega (arith, e, r.late), omega (arith, a, r.gone));
    }

pub returns-in_err-plan-clause-refuses : goal.returns-in_err-plan-clause-refuses
returns-in_err-plan-clause-refuses g c =
    let h = c.in_err-plan.field-0.0 in
    told_by c.from_residual.result h c.from_residual.ensures.1
    ∙ refusal_so _ _ _ (Some h) (sym c.has_room.ensures ∙ c.if-not-has_room.false) (c.day.ensures.yard (g.R.Carry.hands c.args.rule.now)) c.in_err-plan.ensures.refuses

pub returns-clause-refuses : goal.returns-clause-refuses
returns-clause-refuses g c =
    refusal_so _ _ _ None (sym c.has_room.ensures ∙ c.if-not-has_room.false) (c.day.ensures.yard (g.R.Carry.hands c.args.rule.now)) c.in_ok-plan.ensures.refuses

pub returns-clause-planned : goal.returns-clause-planned
returns-clause-planned g c =
    let y = c.day.ensures.yard (g.R.Carry.hands c.args.rule.now) in
    subst (λ (x : Yard). PlanIn (g.T.Tariff.prices c.args.tariff.now) x c.plan.new.late c.plan.new.gone c.in_ok-plan.field-0.0 c.in_ok-plan.field-0.1) y c.in_ok-plan.ensures.planned
