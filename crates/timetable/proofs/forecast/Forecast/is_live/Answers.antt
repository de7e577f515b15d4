use Rattle.std.proofs.Common.{◌≡◌, ◌<◌, Bool, true, false, cond, ltb, length, sym, ap, ◌∙◌, ⊎_elim, arith, rules}
use Rattle.sheet.specs.Rules.{activity_at}
use Rattle.model.specs.Lateness.{worst}
use Rattle.timetable.specs.Days.{yard_of}
use Rattle.timetable.specs.declared.day.stance.Stance.TheVariants.{Gone}
use Rattle.timetable.proofs.Stances.{off, live_so, margin_short}
use Rattle.timetable.proofs.Loops.{ordered, worst_short}
use Rattle.timetable.proofs.forecast.Forecast.is_live.Given as given
use Rattle.timetable.proofs.forecast.Forecast.is_live.Goals as goal
use Rattle.timetable.proofs.forecast.Forecast.is_live.Goals.{After-from}

-- the tail is an event of the sheet
within : (g : given.Over) (c : After-from g) → c.from.result < length c.args.self.now.day.sheet.events.now
within g c =
    let o = ordered (g.R.Carry.hands c.args.self.now.rule.now) c.args.self.now.day (g.met.R.Carry.lawful c.args.self.now.rule.now) (λ a. true) c.args.a c.requires in
    omega (arith, o, c.from.ensures)

pub offset_bounds-self-from : goal.offset_bounds-self-from
offset_bounds-self-from g c = let w = within g c in let r = c.args.self.now.holds.room in search rules

pub bounds-self-from : goal.bounds-self-from
bounds-self-from g c =
    let o = ordered (g.R.Carry.hands c.args.self.now.rule.now) c.args.self.now.day (g.met.R.Carry.lawful c.args.self.now.rule.now) (λ a. true) c.args.a c.requires in
    omega (arith, o, c.from.ensures, c.args.self.now.holds.room)

pub carry-requires : goal.carry-requires
carry-requires g c =
    let rule = g.R.Carry.hands c.args.self.now.rule.now in
    let lawful = g.met.R.Carry.lawful c.args.self.now.rule.now in
    let o = ordered rule c.args.self.now.day lawful (λ a. true) c.args.a c.requires in
    let w : c.from.result < length c.args.self.now.day.sheet.events.now = omega (arith, o, c.from.ensures) in
    let h = c.args.self.now.holds.holds c.from.result w in
    let s = worst_short rule c.args.self.now.day lawful c.from.result in
    (margin_short c.args.self.now.day c.args.a c.requires, omega (arith, h, s))

pub returns-in-Gone : goal.returns-in-Gone
returns-in-Gone g c = live_so (g.R.Carry.hands c.args.self.now.rule.now) c.args.self.now.day c.args.a Gone c.in-Gone.ensures

pub returns-in-Bound : goal.returns-in-Bound
returns-in-Bound g c =
    let rule = g.R.Carry.hands c.args.self.now.rule.now in
    let d = c.args.self.now.day in
    let o = ordered rule d (g.met.R.Carry.lawful c.args.self.now.rule.now) (λ a. true) c.args.a c.requires in
    let w : c.from.result < length d.sheet.events.now = omega (arith, o, c.from.ensures) in
    let l = c.args.self.now.holds.holds c.from.result w ∙ ap (worst (yard_of rule d)) c.from.ensures in
    let f : off c.stance.result ≡ false = ⊎_elim (ap off) (ap off) c.in-Bound.is in
    let x = ltb 0 (rule (activity_at d.sheet.activities.now c.args.a).margin (worst (yard_of rule d) (activity_at d.sheet.activities.now c.args.a).tail)) in
    ap (ltb 0) (c.carry.ensures ∙ ap (rule (activity_at d.sheet.activities.now c.args.a).margin) l)
    ∙ sym (ap (λ (b : Bool). cond b false x) f)
    ∙ live_so rule d c.args.a c.stance.result c.stance.ensures
