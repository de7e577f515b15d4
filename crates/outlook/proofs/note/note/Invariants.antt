use Rattle.std.proofs.Common.{◌≡◌, ℕ, get_or, drop}
use Rattle.outlook.specs.Reports.{noted_after}
use Rattle.outlook.proofs.note.note.Given as goal

-- the reports so far are noted, and the rest would complete it
abbrev pub invariant-loop-report : goal.invariant-loop-report
invariant-loop-report l = (e : ℕ) → noted_after e (get_or l.delays e 0) (drop l.report-index l.reports) ≡ noted_after e (get_or l.initial.delays e 0) l.reports
