use Rattle.std.proofs.Common.{eqb, ◌∙◌, rules}
use Rattle.std.proofs.lemmas.Iterator.{YieldsList-from_slice}
use Rattle.std.proofs.lemmas.Iterator.Search.{any_from_yields_List}
use borrow.Author.Tests.{tests}
use Rattle.timetable.proofs.Strides.{some_any}
use Rattle.timetable.proofs.day.steps.is_over.Goals as goal

pub returns : goal.returns
returns c =
    any_from_yields_List (λ b. eqb b c.args.a) _ _ _ c.any.ensures.ran (YieldsList-from_slice c.args.steps.now cc) (λ x b q k. search (rules, tests))
    ∙ some_any (λ b. eqb b c.args.a) c.args.steps.now
