-- Whole numbers are lawful tolls, and parcels times minutes grow with the minutes.
use Rattle.std.specs.Prelude.{◌≡◌, ℕ, ◌*◌, ◌≤◌, true}
use Rattle.std.proofs.Common.{mul-le-mul_left, arith, rules}
use Rattle.std.proofs.lemmas.Bool.{le-leb}
use Rattle.tariff.specs.Tolls.{LawfulTolls, numbers}

pub numbers_lawful : LawfulTolls numbers
numbers_lawful = search rules

pub due_rising : (parcels less more : ℕ) → less ≤ more → numbers.at_most (parcels * less) (parcels * more) ≡ true
due_rising parcels less more h = le-leb (parcels * less) (parcels * more) (mul-le-mul_left parcels h)

-- at most 1,440 for each parcel
pub due_bulk : (parcels minutes : ℕ) → minutes ≤ 1440 → parcels * minutes ≤ 1440 * parcels
due_bulk parcels minutes h = omega (arith, mul-le-mul_left parcels h)
