use Rattle.board.specs.Ledger.{ledger_of}
use Rattle.board.proofs.Publishing.{published_so}
use Rattle.board.proofs.board.Board.plan_published.Goals as goal

pub returns-clause-published : goal.returns-clause-published
returns-clause-published c = published_so (ledger_of c.args.self.now) c.plan.new.tables.late.now c.plan.new.tables.gone.now c.plan.result c.plan.ensures.planned
