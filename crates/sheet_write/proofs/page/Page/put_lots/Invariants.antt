use Rattle.std.proofs.Common.{take}
use Rattle.std.specs.List.{flat_map}
use Rattle.sheet.specs.Bytes.{lot_bytes}
use Rattle.sheet_write.specs.Pages.{Puts}
use Rattle.sheet_write.proofs.page.Page.put_lots.Given as goal

-- the lots before this one have been put
abbrev pub invariant-loop-lot : goal.invariant-loop-lot
invariant-loop-lot l = Puts l.initial.self (flat_map (lot_bytes l.steps) (take l.lot-index l.lots)) l.self
