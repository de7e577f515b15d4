use Rattle.std.proofs.Common.{length, ◌∙◌, rules, arith}
use borrow.Author.Tests.{tests}
use Rattle.std.proofs.lemmas.Iterator.{YieldsList-from_range}
use Rattle.std.proofs.lemmas.Iterator.Consumers.{count_from_yields_List, YieldsList-from_filter}
use Rattle.model.specs.Yard.{activity_count}
use Rattle.timetable.specs.Days.{yard_of}
use Rattle.timetable.proofs.Sources.{counted}
use Rattle.choice.specs.Chosen.{goes_unmarked}
use Rattle.choice.proofs.count.count_gone.Goals as goal

pub returns : goal.returns
unfolding activity_count
returns c = λ rule.
    let t = goes_unmarked (yard_of rule c.args.day.now) c.args.gone.now in
    let m = length c.args.day.now.sheet.activities.now in
    count_from_yields_List c.filter.result c.count.result c.count.ensures.ran
    (YieldsList-from_filter _ t (YieldsList-from_range 0 m m (cc) (omega arith)) c.filter.ensures.closure (λ x r q k. search (rules, tests)))
    ∙ counted t m
