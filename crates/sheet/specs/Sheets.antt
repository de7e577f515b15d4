-- A sheet as the program holds it, and what it means: its tables.
use Rattle.std.specs.Prelude.{ℕ, cond, List, length, Some, None, Option, nat_lt}
use Rattle.sheet.specs.declared.sheet.Sheet.{Sheet}
use Rattle.sheet.specs.Rules.{Tables, tables, lot_at, stretch}

-- the tables of a sheet
abbrev pub tables_of : Sheet → Tables
tables_of s = tables s.period s.events.now s.activities.now s.lots.now s.steps.now

-- the steps of the lot of a number, if there is one
abbrev pub steps_at : Tables → ℕ → Option (List ℕ)
steps_at t i = cond (nat_lt i (length t.lots)) (Some (stretch (lot_at t.lots i) t.steps)) None
