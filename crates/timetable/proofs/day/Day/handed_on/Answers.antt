use Rattle.std.proofs.Common.{◌≡◌, sym, ap, ◌∙◌}
use Rattle.timetable.specs.declared.day.stance.Stance.{Stance}
use Rattle.timetable.proofs.Stances.{binding, handed_so, margin_short}
use Rattle.timetable.proofs.day.Day.handed_on.Goals as goal
use Rattle.timetable.proofs.day.Day.handed_on.Goals.{in-Gone, in-Bound, in-Open}

pub carry-requires : goal.carry-requires
carry-requires g c = (margin_short c.args.self.now c.args.a c.requires.known.0, c.requires.short)

pub returns-then-waits : goal.returns-then-waits
returns-then-waits g c =
    let z = g.C.Choosing.choice c.args.choosing.now c.args.a in
    let b : binding c.stance.result z ≡ c.match-stance.waits = elim c.match-stance.branch [
      | in-Gone w ↦ ap (λ (s : Stance). binding s z) w.in-Gone.is ∙ sym w.waits-is
      | in-Bound w ↦ ap (λ (s : Stance). binding s z) w.in-Bound.is ∙ sym w.waits-is
      | in-Open w ↦ ap (λ (s : Stance). binding s z) w.in-Open.is ∙ sym w.waits-waits.ensures ∙ sym w.waits-is
    ] in
    c.carry.ensures ∙ handed_so (g.R.Carry.hands c.args.rule.now) c.args.self.now (g.C.Choosing.choice c.args.choosing.now) c.args.a c.args.lateness c.stance.result _ c.stance.ensures (b ∙ c.if-waits.true)

pub returns-else-waits : goal.returns-else-waits
returns-else-waits g c =
    let z = g.C.Choosing.choice c.args.choosing.now c.args.a in
    let b : binding c.stance.result z ≡ c.match-stance.waits = elim c.match-stance.branch [
      | in-Gone w ↦ ap (λ (s : Stance). binding s z) w.in-Gone.is ∙ sym w.waits-is
      | in-Bound w ↦ ap (λ (s : Stance). binding s z) w.in-Bound.is ∙ sym w.waits-is
      | in-Open w ↦ ap (λ (s : Stance). binding s z) w.in-Open.is ∙ sym w.waits-waits.ensures ∙ sym w.waits-is
    ] in
    handed_so (g.R.Carry.hands c.args.rule.now) c.args.self.now (g.C.Choosing.choice c.args.choosing.now) c.args.a c.args.lateness c.stance.result _ c.stance.ensures (b ∙ c.if-waits.false)
