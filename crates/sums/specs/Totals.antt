-- Sums of tolls, and of what lots pay.
--
--   total          the sum of finitely many tolls, by number
--   lots_total     the sum of what all the lots pay
--   lot_weight     the most bulk that a lot may pay: 1,440 for each of its parcels
--   lots_weight    the weights of all the lots together
--   sheet_bulk     the most that the lots of a sheet can weigh together
--   Each           a fact of every one of the lots
use Rattle.std.specs.Prelude.{ℕ, zero, suc, ◌*◌, ◌<◌, List, length}
use Rattle.sheet.specs.declared.records.Lot.{Lot}
use Rattle.sheet.specs.Rules.{lot_at}
use Rattle.tariff.specs.Tolls.{Tolls, numbers}

-- the sum of f 0 .. f (n - 1)
unfoldable pub total : {A : Type 0} → Tolls A → ℕ → (ℕ → A) → A
total t zero f = t.nought
total t (suc n) f = t.plus (total t n f) (f n)

-- what the lot of a number pays
abbrev pub paid_at : {A : Type 0} → (Lot → A) → List Lot → ℕ → A
paid_at pays lots i = pays (lot_at lots i)

abbrev pub lots_total : {A : Type 0} → Tolls A → (Lot → A) → List Lot → A
lots_total t pays lots = total t (length lots) (paid_at pays lots)

abbrev pub lot_weight : Lot → ℕ
lot_weight lot = 1440 * lot.parcels

abbrev pub lots_weight : List Lot → ℕ
lots_weight lots = lots_total numbers lot_weight lots

-- 512 lots of 65,535 parcels: 48,317,644,800, which is below the cap of 2 ^ 40
abbrev pub sheet_bulk : ℕ
sheet_bulk = 512 * (1440 * 65535)

abbrev pub Each : (Lot → Type 0) → List Lot → Type 0
Each keeps lots = (i : ℕ) → i < length lots → keeps (lot_at lots i)
