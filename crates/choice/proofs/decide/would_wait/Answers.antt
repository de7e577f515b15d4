use Rattle.std.proofs.Common.{◌≡◌, Bool, not, ◌&&◌, sym, ap, ◌∙◌}
use Rattle.model.specs.Meeting.{live}
use Rattle.timetable.specs.declared.day.stance.Stance.{Stance}
use Rattle.timetable.specs.Days.{yard_of}
use Rattle.timetable.proofs.Stances.{binding}
use Rattle.choice.specs.Chosen.{cheap, unless_cheap}
use Rattle.choice.proofs.Deciding.{waits_so}
use Rattle.choice.proofs.decide.would_wait.Goals.{then-is_live, else-is_live}
use Rattle.choice.proofs.decide.would_wait.Goals as goal

pub returns-in-Bound : goal.returns-in-Bound
returns-in-Bound g c =
    let rule = g.R.Carry.hands c.args.priced.now.forecast.now.rule.now in
    let z = unless_cheap (g.T.Tariff.prices c.args.priced.now.tariff.now) (yard_of rule c.args.priced.now.forecast.now.day) in
    sym (ap (λ (s : Stance). binding s (z c.args.a)) c.in-Bound.is) ∙ waits_so rule c.args.priced.now.forecast.now.day c.args.a c.stance.result c.stance.ensures z

pub returns-in-Gone : goal.returns-in-Gone
returns-in-Gone g c =
    let rule = g.R.Carry.hands c.args.priced.now.forecast.now.rule.now in
    let z = unless_cheap (g.T.Tariff.prices c.args.priced.now.tariff.now) (yard_of rule c.args.priced.now.forecast.now.day) in
    sym (ap (λ (s : Stance). binding s (z c.args.a)) c.in-Gone.is) ∙ waits_so rule c.args.priced.now.forecast.now.day c.args.a c.stance.result c.stance.ensures z

pub returns-after-is_live : goal.returns-after-is_live
returns-after-is_live g c =
    let rule = g.R.Carry.hands c.args.priced.now.forecast.now.rule.now in
    let p = g.T.Tariff.prices c.args.priced.now.tariff.now in
    let y = yard_of rule c.args.priced.now.forecast.now.day in
    let a = c.args.a in
    let z = unless_cheap p y in
    let v : c.if-is_live.result ≡ (live y a && cheap p y a) = elim c.if-is_live.branch [
      | then-is_live w ↦ w.result-is ∙ w.is_cheap.ensures ∙ sym (ap (λ (b : Bool). b && cheap p y a) (sym c.is_live.ensures ∙ w.if-is_live.true))
      | else-is_live w ↦ w.result-is ∙ w.if-is_live.false ∙ sym (ap (λ (b : Bool). b && cheap p y a) (sym c.is_live.ensures ∙ w.if-is_live.false))
    ] in
    ap not v ∙ sym (ap (λ (s : Stance). binding s (z a)) c.in-Open.is) ∙ waits_so rule c.args.priced.now.forecast.now.day a c.stance.result c.stance.ensures z
