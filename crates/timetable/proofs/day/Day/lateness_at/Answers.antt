use Rattle.std.proofs.Common.{◌≡◌, ℕ, ◌<◌, max, cond, length, get_or, sym, ap, ◌∙◌, arith, rules}
use Rattle.sheet.specs.Rules.{activity_at}
use Rattle.model.specs.Finite.{top}
use Rattle.model.specs.Yard.{handed}
use Rattle.model.specs.Lateness.{binds, brings, least}
use Rattle.timetable.specs.Days.{yard_of}
use Rattle.timetable.proofs.Loops.{top_none, top_more, top_skip, ordered, least_so, least_short, brings_here, brings_elsewhere}
use Rattle.timetable.proofs.day.Day.lateness_at.Given as given
use Rattle.timetable.proofs.day.Day.lateness_at.Goals as goal
use Rattle.timetable.proofs.day.Day.lateness_at.Goals.{After-from-then-from-e}
use Rattle.timetable.proofs.day.Day.lateness_at.Goals.{then-from-e, else-from-e}

pub loop-a-init : goal.loop-a-init
loop-a-init g c = top_none _ _

-- the tail of an activity into the event comes before it
early : (g : given.Over) (c : After-from-then-from-e g) → c.from-then-from-e.result < c.args.e
early g c =
    let o = ordered (g.R.Carry.hands c.args.rule.now) c.args.self.now (g.met.R.Carry.lawful c.args.rule.now) (g.C.Choosing.choice c.args.choosing.now) c.loop-a.a c.loop-a-test.true in
    omega (arith, o.0, c.from.ensures, c.from-then-from-e.ensures, c.if-from-e.true)

pub offset_bounds-late-from : goal.offset_bounds-late-from
offset_bounds-late-from g c = let t = early g c in let h = c.requires.within in search rules

pub bounds-late-from : goal.bounds-late-from
bounds-late-from g c =
    let o = ordered (g.R.Carry.hands c.args.rule.now) c.args.self.now (g.met.R.Carry.lawful c.args.rule.now) (g.C.Choosing.choice c.args.choosing.now) c.loop-a.a c.loop-a-test.true in
    omega (arith, o.0, c.from.ensures, c.from-then-from-e.ensures, c.if-from-e.true, c.requires.within)

pub handed_on-came-requires : goal.handed_on-came-requires
handed_on-came-requires g c =
    let lawful = g.met.R.Carry.lawful c.args.rule.now in
    let z = g.C.Choosing.choice c.args.choosing.now in
    let o = ordered (g.R.Carry.hands c.args.rule.now) c.args.self.now lawful z c.loop-a.a c.loop-a-test.true in
    let e : c.from-then-from-e.result < c.args.e = omega (arith, o.0, c.from.ensures, c.from-then-from-e.ensures, c.if-from-e.true) in
    let b = c.requires.before c.from-then-from-e.result e in
    let s = least_short (g.R.Carry.hands c.args.rule.now) c.args.self.now lawful z c.from-then-from-e.result in
    record { known = (c.loop-a-test.true, c.requires.known c.loop-a.a c.loop-a-test.true); short = omega (arith, b, s) }

pub loop-a-preserved : goal.loop-a-preserved
loop-a-preserved g c =
    let rule = g.R.Carry.hands c.args.rule.now in
    let lawful = g.met.R.Carry.lawful c.args.rule.now in
    let z = g.C.Choosing.choice c.args.choosing.now in
    let d = c.args.self.now in
    elim c.if-from-e.branch [
      | then-from-e w ↦
          let o = ordered rule d lawful z c.loop-a.a c.loop-a-test.true in
          let h : (activity_at d.sheet.activities.now c.loop-a.a).head ≡ c.args.e = sym c.from.ensures ∙ w.if-from-e.true in
          let e : w.from-then-from-e.result < c.args.e = omega (arith, o.0, c.from.ensures, w.from-then-from-e.ensures, w.if-from-e.true) in
          let b = c.requires.before w.from-then-from-e.result e ∙ ap (least (yard_of rule d) z) w.from-then-from-e.ensures in
          let came : w.handed_on-came.result ≡ brings (yard_of rule d) z (least (yard_of rule d) z) c.args.e c.loop-a.a =
          w.handed_on-came.ensures ∙ ap (λ (l : ℕ). cond (binds (yard_of rule d) z c.loop-a.a) (handed (yard_of rule d) c.loop-a.a l) 0) b ∙ sym (brings_here rule d lawful z c.args.e c.loop-a.a h) in
          w.most-is ∙ w.max-most.ensures ∙ ap (max c.loop-a.most) came ∙ top_more c.loop-a.most _ c.loop-a.a _ c.loop-a.invariant
      | else-from-e w ↦
          w.most-is ∙ top_skip c.loop-a.most _ c.loop-a.a _ (brings_elsewhere rule d lawful z c.args.e c.loop-a.a (λ q. w.if-from-e.false (c.from.ensures ∙ q))) c.loop-a.invariant
    ]

pub returns : goal.returns
returns g c =
    let h = g.met.R.Carry.lawful c.args.rule.now in
    let n : c.loop-a.a ≡ length c.args.self.now.sheet.activities.now = omega arith in
    c.loop-a.invariant
    ∙ ap (λ (k : ℕ). max (get_or c.args.self.now.delays.now c.args.e 0) (top k (brings (yard_of (g.R.Carry.hands c.args.rule.now) c.args.self.now) (g.C.Choosing.choice c.args.choosing.now) (least (yard_of (g.R.Carry.hands c.args.rule.now) c.args.self.now) (g.C.Choosing.choice c.args.choosing.now)) c.args.e))) n
    ∙ least_so (g.R.Carry.hands c.args.rule.now) c.args.self.now h (g.C.Choosing.choice c.args.choosing.now) c.args.e c.requires.within.0
