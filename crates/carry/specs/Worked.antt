-- Worked cases of the rules.
--
--   WorkedRules    share at margin 50 hands on 3 of 7, and with allowance 3, 7 remains; gate at margin 3 hands on 0 of 3 and 4 of 4
use Rattle.std.specs.Prelude.{◌≡◌}
use Rattle.carry.specs.Laws.{Remains}
use Rattle.carry.specs.Handed.{gated, shared}

abbrev pub WorkedRules : Type 0
WorkedRules = (shared 50 7 ≡ 3) × Remains shared 50 3 7 × (gated 3 3 ≡ 0) × (gated 3 4 ≡ 4)
