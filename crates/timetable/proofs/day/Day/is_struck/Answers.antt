use Rattle.std.proofs.Common.{◌≡◌, sym, refl, ap, ◌∙◌}
use denote.Enum.Bare.{sameb}
use Rattle.timetable.specs.contracts.day.stance.Stance.{the_type}
use Rattle.timetable.specs.declared.day.stance.Stance.{Stance}
use Rattle.timetable.specs.declared.day.stance.Stance.TheVariants.{Bound, Open, Gone}
use Rattle.timetable.proofs.Stances.{off, struck_by}
use Rattle.timetable.proofs.day.Day.is_struck.Goals as goal

is_gone : (s : Stance) → sameb the_type s Gone ≡ off s
is_gone Bound = refl
is_gone Open = refl
is_gone Gone = refl

pub returns : goal.returns
returns c = λ rule. c.eq.ensures ∙ is_gone c.stance.result ∙ ap off c.stance.ensures ∙ sym (struck_by rule c.args.self.now c.args.a)
