use Rattle.std.proofs.Common.{◌≡◌, ℕ, ◌<◌, ◌≤◌, cond, get_or}
use Rattle.timetable.specs.Days.{yard_of}
use Rattle.choice.specs.Chosen.{on_time}
use Rattle.choice.proofs.decide.keep_punctual.Given as goal

abbrev pub invariant-loop-a : goal.invariant-loop-a
invariant-loop-a l =
    ((rule : ℕ → ℕ → ℕ) (k : ℕ) → k < l.a → get_or l.byte-items k 0 ≡ cond (on_time (yard_of rule l.day) l.late k) 0 (get_or l.initial.byte-items k 0))
    × ((k : ℕ) → l.a ≤ k → get_or l.byte-items k 0 ≡ get_or l.initial.byte-items k 0)
