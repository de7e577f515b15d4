use Rattle.std.proofs.Common.{◌≡◌, ℕ, ◌<◌, List, length, Option, Result, sym, ap, ◌∙◌, arith}
use Rattle.std.proofs.lemmas.List.{set-get_or}
use Rattle.std.proofs.lemmas.Result.{err_from_is_err_and}
use Rattle.sheet.specs.declared.records.Activity.{Activity}
use Rattle.sheet_read.specs.declared.fault.Section.TheVariants.{Lots}
use Rattle.sheet_read.specs.declared.fault.Spot.{Spot}
use Rattle.sheet_read.specs.declared.fault.RecordFault.{RecordFault}
use Rattle.sheet_read.specs.Records.{step_of}
use Rattle.sheet_read.specs.Sections.{spot_at}
use Rattle.sheet_read.specs.Lots.{lot_step}
use Rattle.sheet_read.proofs.Running.{filled_more, filled_fault}
use Rattle.sheet_read.proofs.lot.read_steps.Goals as goal

-- the step that was read, at the spot that it was told
told : (activities : List Activity) (lot total total' : ℕ) (from : Option ℕ) (rest : List ℕ) (at : Spot) (o : Result (ℕ × List ℕ) RecordFault)
    → at ≡ spot_at Lots lot total' rest → total' ≡ total → o ≡ step_of activities from at rest → lot_step activities lot total from rest ≡ o
told activities lot total total' from rest at o e t h =
    ap (λ (k : ℕ). step_of activities from (spot_at Lots lot k rest) rest) (sym t) ∙ ap (λ (a : Spot). step_of activities from a rest) (sym e) ∙ sym h

pub loop-cell-preserved : goal.loop-cell-preserved
loop-cell-preserved c =
    let e = told c.args.activities.now c.args.lot c.args.unread.total c.loop-cell.left.total c.loop-cell.from c.loop-cell.left.rest.now c.spot.result _ c.spot.ensures c.loop-cell.invariant.total c.in_ok-step.ensures.0 in
    let k : c.loop-cell.cell-index < length c.args.steps.now = omega arith in
    record {
      filled = rw c.from.ensures (filled_more _ _ _ _ _ _ _ _ _ _ _ _ _ _ c.loop-cell.invariant.filled k (omega arith) k e);
      total = c.in_ok-step.ensures.1 ∙ c.loop-cell.invariant.total;
    }

pub returns-in_err-step : goal.returns-in_err-step
returns-in_err-step c =
    let p = err_from_is_err_and c.from_residual.result c.from_residual.ensures.1 in
    let e = told c.args.activities.now c.args.lot c.args.unread.total c.loop-cell.left.total c.loop-cell.from c.loop-cell.left.rest.now c.spot.result _ c.spot.ensures c.loop-cell.invariant.total c.in_err-step.ensures.0 in
    let k : c.loop-cell.cell-index < length c.args.steps.now = omega arith in
    let d = filled_fault _ _ _ _ _ _ _ _ _ _ _ _ c.loop-cell.invariant.filled k e in
    record {
      answer = rw (p.1, p.2) (sym d.0, tt);
      cells = set-get_or c.loop-cell.steps c.loop-cell.cell-index 0 ∙ d.1;
    }
