use Rattle.std.proofs.Common.{◌≡◌, ℕ, ◌-◌, ◌<◌, List, length, get_or, ap, ◌∙◌, arith}
use Rattle.sheet.specs.Rules.{activity_at}
use Rattle.timetable.specs.declared.day.Day.{Day}
use Rattle.timetable.specs.Parts.{Walks}
use Rattle.timetable.proofs.Stances.{leads}
use Rattle.timetable.proofs.Strides.{finish_last}
use Rattle.timetable.proofs.day.Day.end_of.Goals as goal

-- the last step is an activity of the sheet
last_known : (d : Day) (s : List ℕ) (last : ℕ) → Walks d s → last ≡ get_or s (length s - 1) 0 → last < length d.sheet.activities.now
last_known d s last w e = let k = w.known (length s - 1) (omega (arith, w.some_steps)) in omega (arith, k, e)

pub bounds-self-last : goal.bounds-self-last
bounds-self-last c = last_known c.args.self.now c.args.steps.now c.from-last.result c.requires c.from-last.ensures

pub returns : goal.returns
returns c =
    let s = c.args.steps.now in
    let e : c.from.result ≡ (activity_at c.args.self.now.sheet.activities.now (get_or s (length s - 1) 0)).head = c.from.ensures ∙ ap (λ (a : ℕ). (activity_at c.args.self.now.sheet.activities.now a).head) c.from-last.ensures in
    let b = (leads c.args.self.now c.from-last.result (last_known c.args.self.now s c.from-last.result c.requires c.from-last.ensures)).1 in
    record { answer = λ rule. e ∙ finish_last rule c.args.self.now s c.requires; within = omega (arith, b, c.from.ensures) }
