use Rattle.std.proofs.Common.{ap, arith}
use Rattle.sheet.specs.declared.records.Lot.{Lot}
use Rattle.sheet.specs.Rules.{no_lot}
use Rattle.sheet.proofs.Stretches.{kept_of, within_steps}
use Rattle.timetable.specs.Days.{sheet_on}
use Rattle.timetable.proofs.Strides.{lot_walks}
use Rattle.timetable.proofs.day.Day.steps_of.Goals as goal

-- the lot's stretch lies within the step table
pub stretch-requires : goal.stretch-requires
stretch-requires c =
    let d = c.args.self.now in
    let k = kept_of (sheet_on d) d.sheet.kept in
    let o = c.requires in
    let w = within_steps d.sheet.activities.now 0 d.sheet.lots.now d.sheet.steps.now k.lots o.number no_lot o.within in
    omega (arith, w, ap (λ (l : Lot). l.first) o.is, ap (λ (l : Lot). l.count) o.is)

pub returns : goal.returns
returns c = record { answer = c.stretch.ensures; walks = lot_walks c.args.self.now c.args.lot c.requires _ c.stretch.ensures }
