-- What a tariff with free minutes means.
--
--   late_due    a late lot pays for each parcel the minutes past the free ones
--   miss_due    a missed lot pays for each parcel every minute
--   by_grace    the prices: whole numbers as tolls, and these two charges
use Rattle.std.specs.Prelude.{ℕ, ◌-◌, ◌*◌}
use Rattle.sheet.specs.declared.records.Class.{Class}
use Rattle.tariff.specs.Tolls.{numbers}
use Rattle.tariff.specs.Prices.{Prices}

abbrev pub late_due : ℕ → Class → ℕ → ℕ → ℕ
late_due free c parcels minutes = parcels * (minutes - free)

abbrev pub miss_due : Class → ℕ → ℕ → ℕ
miss_due c parcels minutes = parcels * minutes

abbrev pub by_grace : ℕ → Prices ℕ
by_grace free = record { tolls = numbers; late = late_due free; miss = miss_due }
