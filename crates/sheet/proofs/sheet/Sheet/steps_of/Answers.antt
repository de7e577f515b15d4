use Rattle.std.proofs.Common.{arith, sym, subst}
use Rattle.std.proofs.iter.Serving.{serving}
use Rattle.sheet.specs.Rules.{Within}
use Rattle.sheet.specs.Sheets.{tables_of}
use Rattle.sheet.proofs.Stretches.{kept_of, within_steps}
use Rattle.sheet.proofs.sheet.Sheet.steps_of.Goals as goal

-- a lot of the sheet has its stretch in the step table
pub map-requires : goal.map-requires
map-requires c = λ x some.
    let s = c.args.self.now in
    let found = rw some at c.get.ensures.lookup in
    let k = kept_of (tables_of s) s.kept in
    let within = within_steps s.activities.now 0 s.lots.now s.steps.now k.lots c.args.lot x.now found.3.0 in
    let own : Within s.steps.now x.now = subst (Within s.steps.now) (sym found.1) (omega (arith, within)) in
    grind serving
