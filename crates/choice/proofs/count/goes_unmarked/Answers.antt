use Rattle.std.proofs.Common.{ap, ⊎_elim}
use Rattle.timetable.proofs.Stances.{decided}
use Rattle.choice.proofs.Deciding.{open_test, shut_test}
use Rattle.choice.proofs.count.goes_unmarked.Goals as goal

pub returns-in-Open : goal.returns-in-Open
returns-in-Open c = λ rule. open_test rule c.args.day.now c.args.a c.stance.result c.stance.ensures _ (ap decided c.in-Open.is)

pub returns-in-Bound : goal.returns-in-Bound
returns-in-Bound c = λ rule. shut_test rule c.args.day.now c.args.a c.stance.result c.stance.ensures _ (⊎_elim (ap decided) (ap decided) c.in-Bound.is)
