-- What the three rules hand on, by margin and lateness.
--
--   deducted    the lateness less the margin
--   gated       nothing up to the margin, above it the whole lateness
--   shared      what is left when the margin's hundredths are taken off
use Rattle.std.specs.Prelude.{ℕ, ◌-◌, ◌*◌, ◌/◌, cond, nat_le}

-- a difference stops at 0
abbrev pub deducted : ℕ → ℕ → ℕ
deducted margin lateness = lateness - margin

abbrev pub gated : ℕ → ℕ → ℕ
gated margin lateness = cond (nat_le lateness margin) 0 lateness

-- rounded down; the difference stops at 0, so a margin above 100 counts as 100
abbrev pub shared : ℕ → ℕ → ℕ
shared margin lateness = lateness * (100 - margin) / 100
