-- The tables that a caller lends for a board's calls.
--
--   SameTables    they are still the caller's own, as long as they were, whatever they now hold
--   lent          their lengths, and what they hold afterwards, by the tables before and after
use Rattle.std.specs.Prelude.{◌≡◌, length}
use Rattle.keeper.specs.declared.tables.Tables.{Tables}
use Rattle.keeper.specs.Orders.{TablesIn, tables_in}

pub record SameTables {X : Type 0} (a b : Tables X) : Type 0 where
  pub worst : b.worst.ghost_name ≡ a.worst.ghost_name
  pub bills : b.bills.ghost_name ≡ a.bills.ghost_name
  pub late : b.late.ghost_name ≡ a.late.ghost_name
  pub gone : b.gone.ghost_name ≡ a.gone.ghost_name
  pub reserves : b.reserves.ghost_name ≡ a.reserves.ghost_name
  pub worst_long : length b.worst.now ≡ length a.worst.now
  pub bills_long : length b.bills.now ≡ length a.bills.now
  pub late_long : length b.late.now ≡ length a.late.now
  pub gone_long : length b.gone.now ≡ length a.gone.now
  pub reserves_long : length b.reserves.now ≡ length a.reserves.now

abbrev pub lent : {X : Type 0} → Tables X → Tables X → TablesIn
lent a b = tables_in a.worst.now a.bills.now a.late.now a.gone.now a.reserves.now b.late.now b.gone.now b.reserves.now
