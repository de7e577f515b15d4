-- Parcel-minutes.
--
--   minutes_due    what a lot pays: its parcels times the minutes
--   by_minutes     the prices: late or missed, that many; the bulk is the toll
use Rattle.std.specs.Prelude.{ℕ, ◌*◌}
use Rattle.sheet.specs.declared.records.Class.{Class}
use Rattle.tariff.specs.Tolls.{numbers}
use Rattle.tariff.specs.Prices.{Prices}

abbrev pub minutes_due : Class → ℕ → ℕ → ℕ
minutes_due c parcels minutes = parcels * minutes

abbrev pub by_minutes : Prices ℕ
by_minutes = record { tolls = numbers; late = minutes_due; miss = minutes_due }
