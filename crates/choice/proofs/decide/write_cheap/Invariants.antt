use Rattle.std.proofs.Common.{◌≡◌, ℕ, ◌<◌, ◌≤◌, get_or}
use Rattle.model.specs.Lateness.{binds}
use Rattle.timetable.specs.Days.{yard_of}
use Rattle.choice.specs.Chosen.{byte, unless_cheap}
use Rattle.choice.proofs.decide.write_cheap.Given as goal

abbrev pub invariant-loop-a : goal.invariant-loop-a
invariant-loop-a g l =
    let y = yard_of (g.R.Carry.hands l.priced.forecast.now.rule.now) l.priced.forecast.now.day in
    ((k : ℕ) → k < l.a → get_or l.byte-items k 0 ≡ byte (binds y (unless_cheap (g.T.Tariff.prices l.priced.tariff.now) y) k))
    × ((k : ℕ) → l.a ≤ k → get_or l.byte-items k 0 ≡ get_or l.initial.byte-items k 0)
