use Rattle.std.proofs.Common.{◌≡◌, ◌∙◌}
use Rattle.std.proofs.Math.Logic.{∥∥₁_elim, ∥∥₁_map}
use base.Stored.{Coded-set}
use Rattle.model.specs.Laws.{Clear}
use Rattle.timetable.specs.Days.{yard_of}
use Rattle.bills.specs.Columns.{Billed}
use Rattle.owed.specs.Owed.{by_bills}
use Rattle.planner.proofs.Clears.{toll_so}
use Rattle.planner.proofs.plan_toll.plan_toll.Goals as goal

pub toll_by_bills-requires : goal.toll_by_bills-requires
toll_by_bills-requires g c =
    let a = c.in_ok-ahead.ahead in
    let fr : a.forecast.rule.now ≡ c.args.rule.now = c.in_ok-ahead.ensures.rule ∙ c.new.ensures.rule in
    let fd : a.forecast.day ≡ c.args.day = c.in_ok-ahead.ensures.day ∙ c.new.ensures.day in
    let clear : Clear (yard_of (g.R.Carry.hands c.args.rule.now) c.args.day) = rw (fr, fd) at a.clear in
    let billed : ∥ Billed (g.T.Tariff.prices c.args.tariff.now) (g.R.Carry.hands c.args.rule.now) c.args.day c.new-priced.result.bills.now ∥₁ = rw (c.new-priced.ensures.forecast, c.new-priced.ensures.tariff, fr, fd) at c.new-priced.result.billed in
    ∥∥₁_map billed (λ b. record { rule = g.R.Carry.hands c.args.rule.now; lawful = g.met.R.Carry.lawful c.args.rule.now; clear = clear; billed = b })

pub returns-clause-toll : goal.returns-clause-toll
returns-clause-toll g c =
    let rule = g.R.Carry.hands c.args.rule.now in
    let p = g.T.Tariff.prices c.args.tariff.now in
    let a = c.in_ok-ahead.ahead in
    let fr : a.forecast.rule.now ≡ c.args.rule.now = c.in_ok-ahead.ensures.rule ∙ c.new.ensures.rule in
    let fd : a.forecast.day ≡ c.args.day = c.in_ok-ahead.ensures.day ∙ c.new.ensures.day in
    let clear : Clear (yard_of (g.R.Carry.hands c.args.rule.now) c.args.day) = rw (fr, fd) at a.clear in
    let billed : ∥ Billed p rule c.args.day c.new-priced.result.bills.now ∥₁ = rw (c.new-priced.ensures.forecast, c.new-priced.ensures.tariff, fr, fd) at c.new-priced.result.billed in
    let toll : c.toll_by_bills.result ≡ by_bills p (yard_of rule c.args.day) = ∥∥₁_elim billed (Coded-set g.row.T-Toll.coded _ _) (λ b. c.toll_by_bills.ensures rule b) in
    toll_so rule c.args.day p (g.met.R.Carry.lawful c.args.rule.now) (g.met.T.Tariff.lawful c.args.tariff.now) clear c.toll_by_bills.result toll
