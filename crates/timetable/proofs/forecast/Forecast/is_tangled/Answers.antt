use Rattle.std.proofs.Common.{◌≡◌, ℕ, Bool, true, false, ◌||◌, ◌&&◌, ltb, get_or, sym, refl, ap, ◌∙◌, arith}
use Rattle.sheet.specs.Rules.{activity_at}
use Rattle.model.specs.Yard.{is_transfer}
use Rattle.model.specs.Lateness.{worst}
use Rattle.model.specs.Lots.{finish, unstruck}
use Rattle.model.specs.Meeting.{live}
use Rattle.model.specs.Tangles.{hot, scan}
use Rattle.timetable.specs.Days.{yard_of}
use Rattle.timetable.proofs.Ways.{scan_on, scan_done, hot_live, hot_not, same_kind}
use Rattle.timetable.proofs.forecast.Forecast.is_tangled.Goals.{then-live, else-live}
use Rattle.timetable.proofs.forecast.Forecast.is_tangled.Goals as goal

pub loop-step-init : goal.loop-step-init
loop-step-init g c = refl

pub is_live-live-requires : goal.is_live-live-requires
is_live-live-requires g c =
    let k = c.requires.known c.loop-step.step-index c.loop-step-test.true in
    omega (arith, k, c.from-a.ensures)

pub loop-step-preserved : goal.loop-step-preserved
loop-step-preserved g c =
    let rule = g.R.Carry.hands c.args.self.now.rule.now in
    let d = c.args.self.now.day in
    let y = yard_of rule d in
    let s = c.args.steps.now in
    let at = get_or s c.loop-step.step-index 0 in
    let l : c.is_live-live.result ≡ live y at = c.is_live-live.ensures ∙ ap (live y) c.from-a.ensures in
    let w : c.if-live.pass ≡ hot y at = elim c.if-live.branch [
      | then-live w ↦ w.pass-is ∙ hot_live rule d at _ (sym l ∙ w.if-live.true) (c.eq-transfer.ensures ∙ same_kind _ ∙ ap (λ (a : ℕ). is_transfer (activity_at d.sheet.activities.now a).kind) c.from-a.ensures)
      | else-live w ↦ w.pass-is ∙ w.if-live.false ∙ hot_not y at (sym l ∙ w.if-live.false)
    ] in
    scan_on y (ltb 0 (worst y (finish y s))) s c.loop-step.step-index c.loop-step.passed.hot c.loop-step.passed.gap c.loop-step.passed.again
    c.is_live-live.result c.if-live.pass c.pass-passed.result.hot c.pass-passed.result.gap c.pass-passed.result.again
    c.loop-step-test.true l w c.pass-passed.ensures.hot c.pass-passed.ensures.gap c.pass-passed.ensures.again c.loop-step.invariant

pub returns-then-is_unstruck : goal.returns-then-is_unstruck
returns-then-is_unstruck g c =
    let rule = g.R.Carry.hands c.args.self.now.rule.now in
    let y = yard_of rule c.args.self.now.day in
    let s = c.args.steps.now in
    let late = ltb 0 (worst y (finish y s)) in
    let w : ltb 0 (get_or c.args.self.now.worst.now c.end_of.result 0) ≡ late = ap (ltb 0) (c.args.self.now.holds.holds c.end_of.result c.end_of.ensures.within ∙ ap (worst y) (c.end_of.ensures.answer rule)) in
    let d = scan_done y late s c.loop-step.step-index c.loop-step.passed.hot c.loop-step.passed.gap c.loop-step.passed.again c.loop-step-test.false c.loop-step.invariant in
    let u : true ≡ unstruck y s = sym c.if-is_unstruck.true ∙ c.is_unstruck.ensures rule in
    c.tells.ensures ∙ ap (λ (b : Bool). c.loop-step.passed.again || (c.loop-step.passed.gap && b)) w ∙ d
    ∙ ap (λ (b : Bool). b && scan (hot y) (live y) late false false false s) u
