use Rattle.std.proofs.Common.{◌≡◌, ◌∙◌, arith}
use Rattle.model.specs.Laws.{Clear}
use Rattle.timetable.specs.Days.{yard_of}
use Rattle.choice.specs.Chosen.{Chosen, gone_count}
use Rattle.planner.proofs.Clears.{written_so, plan_so}
use Rattle.planner.proofs.plan.plan.Goals as goal

pub toll_of-toll-requires : goal.toll_of-toll-requires
toll_of-toll-requires g c =
    let rule = g.R.Carry.hands c.args.rule.now in
    let p = g.T.Tariff.prices c.args.tariff.now in
    let a = c.in_ok-ahead.ahead in
    let fr : a.forecast.rule.now ≡ c.args.rule.now = c.in_ok-ahead.ensures.rule ∙ c.new.ensures.rule in
    let fd : a.forecast.day ≡ c.args.day = c.in_ok-ahead.ensures.day ∙ c.new.ensures.day in
    let chosen : Chosen p (yard_of rule c.args.day) c.choose-count.new.late c.choose-count.new.gone = rw (c.new-priced.ensures.forecast, c.new-priced.ensures.tariff, fr, fd) at c.choose-count.ensures.chosen in
    written_so rule c.args.day p (g.met.R.Carry.lawful c.args.rule.now) (g.met.T.Tariff.lawful c.args.tariff.now)
    c.choose-count.new.late c.choose-count.new.gone chosen (omega (arith, c.requires.room.0, c.choose-count.auto.late)) (omega (arith, c.requires.room.1, c.choose-count.auto.gone))

pub returns-clause-planned : goal.returns-clause-planned
returns-clause-planned g c =
    let rule = g.R.Carry.hands c.args.rule.now in
    let p = g.T.Tariff.prices c.args.tariff.now in
    let a = c.in_ok-ahead.ahead in
    let fr : a.forecast.rule.now ≡ c.args.rule.now = c.in_ok-ahead.ensures.rule ∙ c.new.ensures.rule in
    let fd : a.forecast.day ≡ c.args.day = c.in_ok-ahead.ensures.day ∙ c.new.ensures.day in
    let clear : Clear (yard_of (g.R.Carry.hands c.args.rule.now) c.args.day) = rw (fr, fd) at a.clear in
    let chosen : Chosen p (yard_of rule c.args.day) c.choose-count.new.late c.choose-count.new.gone = rw (c.new-priced.ensures.forecast, c.new-priced.ensures.tariff, fr, fd) at c.choose-count.ensures.chosen in
    let count : c.choose-count.result ≡ gone_count (yard_of rule c.args.day) c.choose-count.new.gone = rw (c.new-priced.ensures.forecast, fr, fd) at c.choose-count.ensures.count in
    plan_so rule c.args.day p (g.met.R.Carry.lawful c.args.rule.now) (g.met.T.Tariff.lawful c.args.tariff.now)
    c.choose-count.new.late c.choose-count.new.gone chosen clear c.toll_of-toll.result c.choose-count.result (c.toll_of-toll.ensures rule) count
