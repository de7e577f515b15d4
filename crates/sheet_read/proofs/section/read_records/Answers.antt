use Rattle.std.proofs.Common.{◌<◌, length, sym, ◌∙◌, arith}
use Rattle.std.proofs.lemmas.Result.{err_from_is_err_and}
use Rattle.sheet_read.proofs.Running.{filled_more, filled_fault}
use Rattle.sheet_read.proofs.section.read_records.Goals as goal

pub loop-i-preserved : goal.loop-i-preserved
loop-i-preserved g c =
    let e = sym c.in_ok-item.ensures.0 in
    let k : c.from.result < length c.args.table.now = omega (arith, c.from.ensures, c.loop-i-test.true, c.requires) in
    record {
      filled = filled_more _ _ _ _ _ _ _ _ _ _ _ _ _ _ c.loop-i.invariant.filled c.loop-i-test.true (omega (arith, c.from.ensures)) k (rw (c.spot.ensures, c.loop-i.invariant.total) at e);
      total = c.in_ok-item.ensures.1 ∙ c.loop-i.invariant.total;
    }

pub returns-in_err-item : goal.returns-in_err-item
returns-in_err-item g c =
    let p = err_from_is_err_and c.from_residual.result c.from_residual.ensures.1 in
    let e = sym c.in_err-item.ensures.0 in
    let d = filled_fault _ _ _ _ _ _ _ _ _ _ _ _ c.loop-i.invariant.filled c.loop-i-test.true (rw (c.spot.ensures, c.loop-i.invariant.total) at e) in
    record { answer = rw (p.1, p.2) (sym d.0, tt); cells = d.1 }
