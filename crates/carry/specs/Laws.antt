-- What every carry rule keeps, and what remains under one.
--
--   LawfulRule    the three laws of a rule, for all whole numbers
--   Remains       the greatest lateness up to 1,440 that hands on at most an allowance
use Rattle.std.specs.Prelude.{◌≡◌, ℕ, ◌≤◌}

-- a rule, as the function from margin and lateness to what is handed on, keeps its laws
pub record LawfulRule (hands : ℕ → ℕ → ℕ) : Type 0 where
  -- no lateness hands on none
  pub punctual : (margin : ℕ) → hands margin 0 ≡ 0
  -- more lateness never hands on less
  pub rising : (margin less more : ℕ) → less ≤ more → hands margin less ≤ hands margin more
  -- no more is handed on than came
  pub no_growth : (margin lateness : ℕ) → hands margin lateness ≤ lateness

-- `most` is what remains: admissible itself, and no admissible lateness up to 1,440 is above it
pub record Remains (hands : ℕ → ℕ → ℕ) (margin allowance most : ℕ) : Type 0 where
  pub bounded : most ≤ 1440
  pub admissible : hands margin most ≤ allowance
  pub greatest : (lateness : ℕ) → lateness ≤ 1440 → hands margin lateness ≤ allowance → lateness ≤ most
