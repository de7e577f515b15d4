-- The tariff that a word names.
use Rattle.std.specs.Prelude.{ℕ, cond, List, Some, None, codes, Option}
use Rattle.listing_read.specs.Words.{same}
use Rattle.console.specs.declared.tariffs.TariffName.{TariffName}
use Rattle.console.specs.declared.tariffs.TariffName.TheVariants.{ParcelMinutes, Ranked}

abbrev pub tariff_of : List ℕ → Option TariffName
tariff_of word = cond (same word (codes "parcel-minutes")) (Some ParcelMinutes) (cond (same word (codes "ranked")) (Some Ranked) None)
