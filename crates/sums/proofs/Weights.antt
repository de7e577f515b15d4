-- A well-formed sheet's lots: how few they are, how few parcels each has, and so how little they weigh.
use Rattle.std.proofs.Common.{◌≡◌, ℕ, zero, suc, ◌+◌, ◌*◌, ◌<◌, ◌≤◌, true, List, [], ◌∷◌, length, drop, mul-le-mul_right, arith}
use Rattle.std.proofs.lemmas.Bool.Decides.{nat_tests}
use Rattle.sheet.specs.declared.records.Activity.{Activity}
use Rattle.sheet.specs.declared.records.Lot.{Lot}
use Rattle.sheet.specs.Rules.{Tables, well_formed, lots_keep, lot_at}
use Rattle.sheet.proofs.Stretches.{kept_of, first_of}
use Rattle.sums.specs.Totals.{lot_weight, lots_weight, paid_at, sheet_bulk}
use Rattle.sums.proofs.Adding.{numbers_bound}

few_parcels : (activities : List Activity) (first : ℕ) (lots : List Lot) (steps : List ℕ) → lots_keep activities first lots steps ≡ true
    → (i : ℕ) → i < length lots → (lot_at lots i).parcels ≤ 65535
few_parcels activities first [] steps h i k = absurd (omega arith)
few_parcels activities first (l ∷ ls) steps h zero k = let keeps = (first_of activities first l ls steps h).lot in grind (arith, nat_tests)
few_parcels activities first (l ∷ ls) steps h (suc i) k =
    few_parcels activities (first + l.count) ls (drop l.count steps) (first_of activities first l ls steps h).others i (omega arith)

few_lots : (t : Tables) → well_formed t ≡ true → length t.lots ≤ 512
few_lots t h = let sizes = (kept_of t h).sizes in grind (arith, nat_tests)

pub light_sheet : (t : Tables) → well_formed t ≡ true → lots_weight t.lots ≤ sheet_bulk
light_sheet t h =
    let each : (i : ℕ) → i < length t.lots → paid_at lot_weight t.lots i ≤ 1440 * 65535 =
    λ i k. omega (arith, few_parcels t.activities 0 t.lots t.steps (kept_of t h).lots i k) in
    omega (arith, numbers_bound (paid_at lot_weight t.lots) (length t.lots) (1440 * 65535) each, mul-le-mul_right (1440 * 65535) (few_lots t h))
