-- Prices: what a tariff means.
--
--   Prices          a kind of toll, and the charge for coming late and for missing, by class, parcels and minutes
--   LawfulPrices    what every tariff keeps, for all whole numbers
use Rattle.std.specs.Prelude.{◌≡◌, ℕ, ◌*◌, ◌≤◌, true}
use Rattle.sheet.specs.declared.records.Class.{Class}
use Rattle.tariff.specs.Tolls.{Tolls, LawfulTolls}

pub record Prices (A : Type 0) : Type 0 where
  pub tolls : Tolls A
  pub late : Class → ℕ → ℕ → A
  pub miss : Class → ℕ → ℕ → A

pub record LawfulPrices {A : Type 0} (p : Prices A) : Type 0 where
  pub tolls : LawfulTolls p.tolls
  -- nothing is due at lateness 0, and never less as lateness grows
  pub punctual : (c : Class) (parcels : ℕ) → p.late c parcels 0 ≡ p.tolls.nought
  pub rising : (c : Class) (parcels less more : ℕ) → less ≤ more → p.tolls.at_most (p.late c parcels less) (p.late c parcels more) ≡ true
  -- missing costs at least as much as every lateness up to the minutes lost
  pub covers : (c : Class) (parcels lateness lost : ℕ) → lateness ≤ lost → p.tolls.at_most (p.late c parcels lateness) (p.miss c parcels lost) ≡ true
  -- up to 1,440 minutes a charge has at most 1,440 of bulk for each parcel
  pub late_bulk : (c : Class) (parcels minutes : ℕ) → minutes ≤ 1440 → p.tolls.bulk (p.late c parcels minutes) ≤ 1440 * parcels
  pub miss_bulk : (c : Class) (parcels minutes : ℕ) → minutes ≤ 1440 → p.tolls.bulk (p.miss c parcels minutes) ≤ 1440 * parcels
