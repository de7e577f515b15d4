use Rattle.std.proofs.Common.{◌≡◌, ◌<◌, true, length, Ok, sym, ◌∙◌, rules}
use Rattle.std.proofs.lemmas.Bool.{cond-true}
use Rattle.model.specs.declared.mark.Mark.TheVariants.{Unmarked}
use Rattle.board.specs.Ledger.{ledger_of, holds, with_mark}
use Rattle.board.proofs.Cells.{marked_ledger}
use Rattle.board.proofs.board.Board.release.Goals as goal

pub returns : goal.returns
returns c =
    let b = c.args.self.now in
    let l = ledger_of b in
    let h : holds l c.args.slip.board c.args.slip.activity ≡ true = sym c.is_good.ensures ∙ c.if-not-is_good.false in
    let w : c.from.result < length b.marks = search rules in
    record {
      answer = sym (cond-true (holds l c.args.slip.board c.args.slip.activity) (Ok tt) _ h);
      after = marked_ledger b.sheet b.number b.delays b.marks c.from.result c.args.slip.activity c.set_mark.new.cell Unmarked w c.from.ensures c.set_mark.ensures
          ∙ sym (cond-true (holds l c.args.slip.board c.args.slip.activity) (with_mark l c.args.slip.activity Unmarked) l h);
    }
