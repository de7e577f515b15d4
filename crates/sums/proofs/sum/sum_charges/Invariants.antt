-- So far the sum is the total of the lots passed, and no bulkier than their weights.
use Rattle.std.proofs.Common.{◌≡◌, ◌≤◌}
use Rattle.tariff.specs.Tolls.{numbers}
use Rattle.sums.specs.Totals.{total, paid_at, lot_weight}
use Rattle.sums.proofs.sum.sum_charges.Given as goal

abbrev pub invariant-loop-lot : goal.invariant-loop-lot
invariant-loop-lot g l =
    (l.sum ≡ total (g.T.Tariff.prices l.tariff).tolls l.lot-index (paid_at (g.C.Charge.pays l.charge l.tariff) l.lots))
    × ((g.T.Tariff.prices l.tariff).tolls.bulk l.sum ≤ total numbers l.lot-index (paid_at lot_weight l.lots))
