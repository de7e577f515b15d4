use Rattle.std.proofs.Common.{take}
use Rattle.std.specs.List.{flat_map}
use Rattle.sheet.specs.Bytes.{number_bytes}
use Rattle.sheet_write.specs.Pages.{Puts}
use Rattle.sheet_write.proofs.page.Page.put_numbers.Given as goal

-- the numbers before this one have been put
abbrev pub invariant-loop-number : goal.invariant-loop-number
invariant-loop-number l = Puts l.initial.self (flat_map number_bytes (take l.number-index l.numbers)) l.self
