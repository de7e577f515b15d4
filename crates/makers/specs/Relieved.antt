-- What a rule with relief hands on.
--
--   relieved    the lateness less the margin, and never more than `most`
use Rattle.std.specs.Prelude.{ℕ, ◌-◌, min}

abbrev pub relieved : ℕ → ℕ → ℕ → ℕ
relieved most margin lateness = min (lateness - margin) most
