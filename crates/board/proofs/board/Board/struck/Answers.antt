use Rattle.std.proofs.Common.{◌∙◌}
use Rattle.board.specs.Ledger.{ledger_of}
use Rattle.board.proofs.Answering.{clear_is}
use Rattle.board.proofs.board.Board.struck.Goals as goal

pub returns : goal.returns
returns c = c.marked.ensures ∙ clear_is (ledger_of c.args.self.now) c.args.activity
