use Rattle.std.proofs.Common.{◌<◌, length, rules}
use Rattle.board.proofs.Cells.{timely_set}
use Rattle.board.proofs.board.Board.report.Goals as goal

pub invariant_of-self : goal.invariant_of-self
invariant_of-self c =
    let h : c.from-2.result < length c.args.self.now.delays = search rules in
    record { timely = timely_set _ _ _ _ c.if-minutes-self.false h c.args.self.now.timely; resting = c.args.self.now.resting }
