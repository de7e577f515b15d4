use Rattle.std.proofs.Common.{ℕ, ◌<◌, eqb, length, get_or, ap, ◌∙◌, ⊎_elim, arith, rules}
use Rattle.model.specs.Yard.{tail}
use Rattle.timetable.proofs.Stances.{decided, leads}
use Rattle.choice.proofs.Deciding.{open_test, shut_test}
use Rattle.choice.proofs.decide.is_on_time.Goals as goal

pub offset_bounds-late-tail : goal.offset_bounds-late-tail
offset_bounds-late-tail c =
    let b : c.from-tail.result < length c.args.late.now = omega (arith, leads c.args.day.now c.args.a c.requires.within, c.from-tail.ensures, c.requires.room) in
    search rules

pub bounds-late-tail : goal.bounds-late-tail
bounds-late-tail c = omega (arith, leads c.args.day.now c.args.a c.requires.within, c.from-tail.ensures, c.requires.room)

pub returns-in-Open : goal.returns-in-Open
unfolding tail
returns-in-Open c = λ rule.
    ap (λ (k : ℕ). eqb (get_or c.args.late.now k 0) 0) c.from-tail.ensures
    ∙ open_test rule c.args.day.now c.args.a c.stance.result c.stance.ensures _ (ap decided c.in-Open.is)

pub returns-in-Bound : goal.returns-in-Bound
returns-in-Bound c = λ rule. shut_test rule c.args.day.now c.args.a c.stance.result c.stance.ensures _ (⊎_elim (ap decided) (ap decided) c.in-Bound.is)
