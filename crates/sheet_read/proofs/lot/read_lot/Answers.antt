use Rattle.std.proofs.Common.{◌≡◌, ◌+◌, ◌-◌, arith}
use Rattle.sheet_read.proofs.Lotting.{own_laid}
use Rattle.sheet_read.proofs.lot.read_lot.Goals as goal

pub returns-in_err-rest-clause-cells : goal.returns-in_err-rest-clause-cells
returns-in_err-rest-clause-cells c =
    let k : (c.from-first.result + c.from.result) - c.from-first.result ≡ c.in_ok-head.head.count = omega (arith, c.from.ensures) in
    own_laid c.args.activities.now c.args.unread.total c.args.lot c.args.used c.args.unread.rest.now c.args.steps.now c.spot-at.result c.in_ok-head.head c.in_ok-head.rest.rest.now c.read_steps.new.steps
    c.in_ok-head.rest.total c.from-first.result _ c.spot-at.ensures c.in_ok-head.ensures.0 c.in_ok-fits.ensures c.in_ok-head.ensures.1 c.from-first.ensures k c.read_steps.ensures.cells c.read_steps.auto.steps

pub returns-clause-cells : goal.returns-clause-cells
returns-clause-cells c =
    let k : (c.from-first.result + c.from.result) - c.from-first.result ≡ c.in_ok-head.head.count = omega (arith, c.from.ensures) in
    own_laid c.args.activities.now c.args.unread.total c.args.lot c.args.used c.args.unread.rest.now c.args.steps.now c.spot-at.result c.in_ok-head.head c.in_ok-head.rest.rest.now c.read_steps.new.steps
    c.in_ok-head.rest.total c.from-first.result _ c.spot-at.ensures c.in_ok-head.ensures.0 c.in_ok-fits.ensures c.in_ok-head.ensures.1 c.from-first.ensures k c.read_steps.ensures.cells c.read_steps.auto.steps
