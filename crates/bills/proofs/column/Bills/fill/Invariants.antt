use Rattle.std.proofs.Common.{◌≡◌, ℕ, ◌≤◌, length, get_or}
use Rattle.bills.specs.Columns.{BilledFrom}
use Rattle.bills.proofs.column.Bills.fill.Given as goal

abbrev pub invariant-loop-e : goal.invariant-loop-e
invariant-loop-e g l =
    BilledFrom (g.T.Tariff.prices l.tariff) (g.R.Carry.hands l.ahead.forecast.rule.now) l.ahead.forecast.day l.self.cells.now l.e
    × ((other : g.row.X.Denot) (k : ℕ) → length l.ahead.forecast.day.sheet.events.now ≤ k → get_or l.self.cells.now k other ≡ get_or l.initial.self.cells.now k other)
    × (length l.self.cells.now ≡ length l.initial.self.cells.now)
    × (l.self.cells.ghost_name ≡ l.initial.self.cells.ghost_name)
