use Rattle.std.proofs.Common.{sym, ◌∙◌, arith, ◌<◌, length}
use Rattle.std.proofs.lemmas.List.{set-get_or}
use Rattle.std.proofs.lemmas.Result.{err_from_is_err_and}
use Rattle.sheet_read.proofs.Running.{filled_more, filled_fault}
use Rattle.sheet_read.proofs.unread.Unread.numbers.Goals as goal

pub loop-cell-preserved : goal.loop-cell-preserved
loop-cell-preserved c =
    let k : c.loop-cell.cell-index < length c.args.cells.now = omega arith in
    record {
      filled = filled_more _ _ _ _ _ _ _ _ _ _ _ _ _ _ c.loop-cell.invariant.filled k (omega arith) k (sym c.in_ok-number.ensures.0);
      total = c.in_ok-number.ensures.1 ∙ c.loop-cell.invariant.total;
    }

pub returns-in_err-number : goal.returns-in_err-number
returns-in_err-number c =
    let p = err_from_is_err_and c.from_residual.result c.from_residual.ensures.1 in
    let k : c.loop-cell.cell-index < length c.args.cells.now = omega arith in
    let d = filled_fault _ _ _ _ _ _ _ _ _ _ _ _ c.loop-cell.invariant.filled k (sym c.in_err-number.ensures.0) in
    record {
      answer = rw (p.1, p.2) (sym d.0, tt);
      cells = set-get_or c.loop-cell.cells c.loop-cell.cell-index 0 ∙ d.1;
    }
