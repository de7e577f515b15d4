-- The tables that a caller lends.
--
--   room_of       how many cells each of them has
--   SameTables    they are still the caller's own, and as long, whatever they now hold
--   AcceptedIn    an accepted sheet lies at their fronts
use Rattle.std.specs.Prelude.{◌≡◌, ℕ, List}
use Rattle.sheet_read.specs.declared.lent.LentTables.{LentTables}
use Rattle.sheet_read.specs.declared.read.Extent.{Extent}
use Rattle.sheet_read.specs.Sheets.{Room, room_in, AcceptedSheet}

abbrev pub room_of : LentTables → Room
room_of t = room_in t.events.now t.activities.now t.lots.now t.steps.now

pub record SameTables (a b : LentTables) : Type 0 where
  pub events : a.events.ghost_name ≡ b.events.ghost_name
  pub activities : a.activities.ghost_name ≡ b.activities.ghost_name
  pub lots : a.lots.ghost_name ≡ b.lots.ghost_name
  pub steps : a.steps.ghost_name ≡ b.steps.ghost_name
  pub as_long : room_of b ≡ room_of a

abbrev pub AcceptedIn : List ℕ → Extent → LentTables → Type 0
AcceptedIn bs x t = AcceptedSheet bs x t.events.now t.activities.now t.lots.now t.steps.now
