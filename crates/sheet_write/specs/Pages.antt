-- Bytes put into a buffer, one after another.
--
--   Puts    some bytes more stand in the buffer, and all its other cells hold what they held
use Rattle.std.specs.Prelude.{◌≡◌, ℕ, ◌+◌, ◌≤◌, List, length}
use Rattle.sheet.specs.Laid.{laid}
use Rattle.sheet_write.specs.declared.page.Page.{Page}

pub record Puts (before : Page) (bytes : List ℕ) (after : Page) : Type 0 where
  pub same : after.cells.ghost_name ≡ before.cells.ghost_name
  pub room : before.at + length bytes ≤ length before.cells.now
  pub place : after.at ≡ before.at + length bytes
  pub holds : after.cells.now ≡ laid before.at bytes before.cells.now
