use Rattle.std.proofs.Common.{◌<◌, length, ◌∙◌, arith, rules}
use Rattle.std.proofs.lemmas.List.{get_or_read}
use Rattle.std.proofs.lemmas.Iterator.{YieldsList-from_slice}
use Rattle.std.proofs.lemmas.Iterator.Adapters.{serves_from_places}
use Rattle.std.proofs.lemmas.Iterator.Search.{any_from_yields_List}
use borrow.Author.Tests.{tests}
use Rattle.timetable.specs.Parts.{gone_by}
use Rattle.timetable.proofs.Strides.{some_any}
use Rattle.timetable.proofs.day.steps.is_missed.Goals as goal

pub any-requires-clause-callable : goal.any-requires-clause-callable
any-requires-clause-callable c =
    serves_from_places (YieldsList-from_slice c.args.steps.now cc) (λ x q k. search rules)
    (λ x k h e. let b = c.requires k h in let f : x.now < length c.args.gone.now = omega (arith, b, get_or_read c.args.steps.now k x.now h e 0) in search rules)

pub returns : goal.returns
returns c =
    any_from_yields_List (gone_by c.args.gone.now) _ _ _ c.any.ensures.ran (YieldsList-from_slice c.args.steps.now cc) (λ x b q k. search (rules, tests))
    ∙ some_any (gone_by c.args.gone.now) c.args.steps.now
