use Rattle.std.proofs.Common.{◌≡◌, ℕ, ◌+◌, Bool, true, false, cond, ltb, length, get_or, ◌∙◌, refl, ap, rules, arith}
use mir.Val.{bool_byte}
use Rattle.model.specs.Finite.{count}
use borrow.Author.Tests.{tests}
use Rattle.std.proofs.lemmas.Iterator.{YieldsList-from_range}
use Rattle.std.proofs.lemmas.Iterator.Consumers.{count_from_yields_List, YieldsList-from_filter}
use Rattle.model.specs.Meeting.{into}
use Rattle.timetable.specs.Days.{yard_of}
use Rattle.timetable.proofs.Sources.{counted, sources_are}
use Rattle.timetable.proofs.forecast.Forecast.count_sources.Goals as goal

one_if : (b : Bool) → bool_byte b ≡ cond b 1 0
one_if true = refl
one_if false = refl

pub returns : goal.returns
returns g c =
    let rule = g.R.Carry.hands c.args.self.now.rule.now in
    let d = c.args.self.now.day in
    let t = into (yard_of rule d) c.args.e in
    let m = length d.sheet.activities.now in
    let n : c.count-live.result ≡ count m t =
    count_from_yields_List c.filter.result c.count-live.result c.count-live.ensures.ran
    (YieldsList-from_filter _ t (YieldsList-from_range 0 m m (cc) (omega arith)) c.filter.ensures.closure (λ x r q k. search (rules, tests)))
    ∙ counted t m in
    ap (λ (k : ℕ). c.count-live.result + k) (c.from.ensures ∙ one_if (ltb 0 (get_or d.delays.now c.args.e 0)))
    ∙ sources_are rule d c.args.e c.count-live.result c.requires n
