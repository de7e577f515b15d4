-- What lots pay when all fare alike.
--
--   late_charge    what a lot pays that ends so many minutes late
--   late_total     the sum of these over all lots
--   miss_charge    what a lot pays that misses a connection and loses so many minutes
--   miss_total     the sum of these over all lots
--   lot_minutes    a lot's parcel-minutes
--   lot_ranks      the same, in the lot's class
--
-- and, if every lot missed a connection, the two tolls that come with the part in plain words:
--
--   missed_minutes    by parcel-minutes, the sum of the lots' parcel-minutes
--   missed_ranks      by rank, the same with express lots and ordinary lots apart
use Rattle.std.specs.Prelude.{◌≡◌, ℕ, ◌*◌, List, refl}
use Rattle.sheet.specs.declared.records.Lot.{Lot}
use Rattle.tariff.specs.declared.ranked.RankedToll.{RankedToll}
use Rattle.tariff.specs.Tolls.{numbers}
use Rattle.tariff.specs.Prices.{Prices}
use Rattle.tariff.specs.Minutes.{by_minutes}
use Rattle.tariff.specs.Ranks.{ranked, in_class, by_rank}
use Rattle.sums.specs.Totals.{lots_total}

abbrev pub late_charge : {A : Type 0} → Prices A → ℕ → Lot → A
late_charge p minutes lot = p.late lot.class lot.parcels minutes

abbrev pub late_total : {A : Type 0} → Prices A → ℕ → List Lot → A
late_total p minutes lots = lots_total p.tolls (late_charge p minutes) lots

abbrev pub miss_charge : {A : Type 0} → Prices A → ℕ → Lot → A
miss_charge p minutes lot = p.miss lot.class lot.parcels minutes

abbrev pub miss_total : {A : Type 0} → Prices A → ℕ → List Lot → A
miss_total p minutes lots = lots_total p.tolls (miss_charge p minutes) lots

abbrev pub lot_minutes : ℕ → Lot → ℕ
lot_minutes minutes lot = lot.parcels * minutes

abbrev pub lot_ranks : ℕ → Lot → RankedToll
lot_ranks minutes lot = in_class lot.class (lot.parcels * minutes)

pub missed_minutes : (period : ℕ) (lots : List Lot) → miss_total by_minutes period lots ≡ lots_total numbers (lot_minutes period) lots
missed_minutes period lots = refl

pub missed_ranks : (period : ℕ) (lots : List Lot) → miss_total by_rank period lots ≡ lots_total ranked (lot_ranks period) lots
missed_ranks period lots = refl
