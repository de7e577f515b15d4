use Rattle.std.proofs.Common.{◌≡◌, ℕ, length, sym, ap, ◌∙◌, arith}
use Rattle.model.specs.Finite.{low}
use Rattle.model.specs.Reserves.{tolerance, remaining}
use Rattle.timetable.specs.Days.{yard_of}
use Rattle.timetable.proofs.Stances.{margin_short}
use Rattle.reserves.proofs.Lows.{low_none, low_more, low_skip}
use Rattle.reserves.proofs.Leavings.{leaves_over, over_out, over_struck, over_elsewhere, reserve_so, remaining_so, head_reserve, head_short}
use Rattle.reserves.proofs.reserve.reserve_at.Goals.{then-from-e+then-not-is_struck, else-from-e, else-from-e-via-then-from-e+else-not-is_struck, else-from-e-via-else-from-e}
use Rattle.reserves.proofs.reserve.reserve_at.Goals as goal

pub loop-a-init : goal.loop-a-init
unfolding tolerance
loop-a-init g c = low_none _ _

-- the cell at the head of an activity that leaves the event
pub remains-requires : goal.remains-requires
remains-requires g c =
    let d = c.args.day.now in
    let leaves = sym c.from.ensures ∙ c.if-from-e.true in (
      margin_short d c.loop-a.a c.loop-a-test.true,
      head_short (g.R.Carry.hands c.args.rule.now) d (g.met.R.Carry.lawful c.args.rule.now) c.args.e c.loop-a.a c.loop-a-test.true leaves c.args.reserves.now c.requires.after _ c.from-then-not-is_struck.ensures,
    )

pub loop-a-preserved : goal.loop-a-preserved
loop-a-preserved g c =
    let rule = g.R.Carry.hands c.args.rule.now in
    let lawful = g.met.R.Carry.lawful c.args.rule.now in
    let d = c.args.day.now in
    let y = yard_of rule d in
    elim c.if-from-e.branch [
      | then-from-e+then-not-is_struck w ↦
          let leaves = sym c.from.ensures ∙ w.if-from-e.true in
          let most =
          remaining_so rule d lawful c.loop-a.a _ w.remains.result w.remains.ensures
          ∙ ap (remaining y c.loop-a.a) (head_reserve rule d lawful c.args.e c.loop-a.a c.loop-a-test.true leaves c.args.reserves.now c.requires.after _ w.from-then-not-is_struck.ensures)
          ∙ sym (over_out y c.args.e c.loop-a.a w.is_struck.result leaves (w.is_struck.ensures rule) w.if-not-is_struck.true) in
          w.least-is ∙ w.min-least.ensures ∙ low_more c.loop-a.least _ c.loop-a.a w.remains.result _ most c.loop-a.invariant
      | else-from-e w ↦
          let over : leaves_over y c.args.e c.loop-a.a ≡ tolerance y c.args.e = elim w.else-from-e.branch [
            | else-from-e-via-then-from-e+else-not-is_struck w' ↦ over_struck y c.args.e c.loop-a.a w'.is_struck.result (w'.is_struck.ensures rule) w'.if-not-is_struck.false
            | else-from-e-via-else-from-e w' ↦ over_elsewhere y c.args.e c.loop-a.a (λ q. w'.if-from-e.false (c.from.ensures ∙ q))
          ] in
          w.least-is ∙ low_skip c.loop-a.least _ c.loop-a.a _ over c.loop-a.invariant
    ]

pub returns : goal.returns
returns g c =
    let rule = g.R.Carry.hands c.args.rule.now in
    let y = yard_of rule c.args.day.now in
    let n : c.loop-a.a ≡ length c.args.day.now.sheet.activities.now = omega arith in
    c.loop-a.invariant
    ∙ ap (λ (k : ℕ). low k (leaves_over y c.args.e) (tolerance y c.args.e)) n
    ∙ reserve_so rule c.args.day.now (g.met.R.Carry.lawful c.args.rule.now) c.args.e
