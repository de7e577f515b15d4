use Rattle.std.proofs.Common.{◌≡◌}
use Rattle.owed.proofs.Owing.{summed}
use Rattle.owed.proofs.by_bills.toll_by_bills.Given as goal

abbrev pub invariant-loop-e : goal.invariant-loop-e
invariant-loop-e g l = l.sum ≡ summed (g.T.Tariff.prices l.tariff) l.day l.cells l.e
