-- Ranked parcel-minutes.
--
--   ranks        a pair of express and ordinary parcel-minutes
--   ranked       such pairs as tolls: express ones are compared first; the bulk is the sum of both
--   in_class     parcel-minutes of one class
--   rank_due     what a lot pays: its parcels times the minutes, in its class
--   by_rank      the prices: late or missed, that much
--   as_pair      how a toll is printed
use Rattle.std.specs.Prelude.{ℕ, ◌+◌, ◌*◌, ◌&&◌, ◌||◌, List, ◌++◌, codes, decimal, ◌==◌, nat_le, nat_lt}
use Rattle.sheet.specs.declared.records.Class.{Class}
use Rattle.sheet.specs.declared.records.Class.TheVariants.{Ordinary, Express}
use Rattle.tariff.specs.declared.ranked.RankedToll.{RankedToll}
use Rattle.tariff.specs.Tolls.{Tolls}
use Rattle.tariff.specs.Prices.{Prices}

abbrev pub ranks : ℕ → ℕ → RankedToll
ranks express ordinary = record { express = express; ordinary = ordinary }

abbrev pub ranked : Tolls RankedToll
ranked = record {
  nought = ranks 0 0;
  plus = λ x y. ranks (x.express + y.express) (x.ordinary + y.ordinary);
  at_most = λ x y. nat_lt x.express y.express || (x.express == y.express && nat_le x.ordinary y.ordinary);
  bulk = λ x. x.express + x.ordinary;
}

abbrev pub in_class : Class → ℕ → RankedToll
in_class Express amount = ranks amount 0
in_class Ordinary amount = ranks 0 amount

abbrev pub rank_due : Class → ℕ → ℕ → RankedToll
rank_due c parcels minutes = in_class c (parcels * minutes)

abbrev pub by_rank : Prices RankedToll
by_rank = record { tolls = ranked; late = rank_due; miss = rank_due }

-- as it is printed: (0, 460)
abbrev pub as_pair : RankedToll → List ℕ
as_pair x = codes "(" ++ (decimal x.express ++ (codes ", " ++ (decimal x.ordinary ++ codes ")")))
