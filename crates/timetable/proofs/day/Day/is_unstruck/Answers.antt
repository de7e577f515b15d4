use Rattle.std.proofs.Common.{◌<◌, length, not, ◌∙◌, ap, arith, rules}
use Rattle.std.proofs.lemmas.List.{get_or_read}
use Rattle.std.proofs.lemmas.Iterator.{YieldsList-from_slice}
use Rattle.std.proofs.lemmas.Iterator.Adapters.{serves_from_places}
use Rattle.std.proofs.lemmas.Iterator.Search.{any_from_yields_List}
use Rattle.model.specs.Yard.{struck}
use Rattle.timetable.specs.Days.{yard_of}
use Rattle.timetable.proofs.Strides.{some_any}
use Rattle.timetable.proofs.day.Day.is_unstruck.Goals as goal

pub any-requires-clause-callable : goal.any-requires-clause-callable
any-requires-clause-callable c =
    serves_from_places (YieldsList-from_slice c.args.steps.now cc) (λ x q k. search rules)
    (λ x k h e. let b = c.requires.known k h in let f : x.now < length c.args.self.now.sheet.activities.now = omega (arith, b, get_or_read c.args.steps.now k x.now h e 0) in search rules)

pub returns : goal.returns
returns c = λ rule.
    let t = struck (yard_of rule c.args.self.now) in
    ap not (any_from_yields_List t _ _ _ c.any.ensures.ran (YieldsList-from_slice c.args.steps.now cc) (λ x b q k. search rules) ∙ some_any t c.args.steps.now)
