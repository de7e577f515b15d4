use Rattle.std.proofs.Common.{◌≡◌, ℕ, ◌<◌, List, length, sym, refl, ap, ◌∙◌, arith}
use Rattle.std.proofs.lemmas.Result.{err_from_is_err_and}
use Rattle.sheet.specs.declared.records.Activity.{Activity}
use Rattle.sheet_read.specs.Lots.{LotRead, lot_of}
use Rattle.sheet_read.proofs.Lotting.{lots_more, lots_fault, lots_all, lot_whole, lot_broken}
use Rattle.sheet_read.proofs.lot.read_lots.Goals as goal

pub returns : goal.returns
returns c =
    let d = lots_all _ _ _ _ _ _ _ _ _ _ _ _ c.loop-i.invariant.all_read c.loop-i-test.false in
    record { answer = (sym d.answers, c.loop-i.invariant.total); lots = d.lots_hold; steps = d.steps_hold }

-- the step table is as long as it was, and what is unread is of the same sheet
same_lot : (activities : List Activity) (total total' cells cells' : ℕ) (s : ℕ × ℕ) (bs : List ℕ) (o : LotRead) → total' ≡ total → cells' ≡ cells → lot_of activities total' cells' s bs ≡ o → lot_of activities total cells s bs ≡ o
same_lot activities total total' cells cells' s bs o t e h = ap (λ (k : ℕ). lot_of activities total k s bs) (sym e) ∙ ap (λ (k : ℕ). lot_of activities k cells' s bs) (sym t) ∙ h

pub returns-in_err-lot : goal.returns-in_err-lot
returns-in_err-lot c =
    let p = err_from_is_err_and c.from_residual.result c.from_residual.ensures.1 in
    let b = lot_broken (lot_of c.args.activities.now c.loop-i.left.total (length c.loop-i.steps) (c.loop-i.i, c.loop-i.used) c.loop-i.left.rest.now) _ (sym c.in_err-lot.ensures.answer.0) in
    let k = same_lot c.args.activities.now c.args.unread.total c.loop-i.left.total (length c.args.steps.now) (length c.loop-i.steps) (c.loop-i.i, c.loop-i.used) c.loop-i.left.rest.now _ c.loop-i.invariant.total c.loop-i.auto.steps b in
    let d = lots_fault _ _ _ _ _ _ _ _ _ _ _ _ _ _ _ c.loop-i.invariant.all_read c.loop-i-test.true k c.read_lot.ensures.cells in
    record { answer = rw (p.1, p.2) (sym d.answers, tt); lots = d.lots_hold; steps = d.steps_hold }

pub loop-i-preserved : goal.loop-i-preserved
loop-i-preserved c =
    let b = lot_whole (lot_of c.args.activities.now c.loop-i.left.total (length c.loop-i.steps) (c.loop-i.i, c.loop-i.used) c.loop-i.left.rest.now) _ _ (sym c.in_ok-lot.ensures.answer.0) in
    let k = same_lot c.args.activities.now c.args.unread.total c.loop-i.left.total (length c.args.steps.now) (length c.loop-i.steps) (c.loop-i.i, c.loop-i.used) c.loop-i.left.rest.now _ c.loop-i.invariant.total c.loop-i.auto.steps b in
    let l : c.loop-i.i < length c.args.lots.now = omega (arith, c.loop-i-test.true, c.requires) in
    record {
      all_read = rw c.from.ensures (lots_more _ _ _ _ _ _ _ _ _ _ _ _ _ _ _ _ refl c.loop-i.invariant.all_read c.loop-i-test.true l k c.read_lot.ensures.cells);
      total = c.in_ok-lot.ensures.answer.1 ∙ c.loop-i.invariant.total;
    }
