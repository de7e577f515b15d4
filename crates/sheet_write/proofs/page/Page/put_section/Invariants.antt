use Rattle.std.proofs.Common.{take}
use Rattle.std.specs.List.{flat_map}
use Rattle.sheet.specs.Bytes.{number_bytes}
use Rattle.sheet_write.specs.Pages.{Puts}
use Rattle.sheet_write.proofs.page.Page.put_section.Given as goal

-- the records before this one have been put
abbrev pub invariant-loop-record : goal.invariant-loop-record
invariant-loop-record g l = Puts l.initial.self (flat_map (λ r. flat_map number_bytes (g.R.Numbered.numbers r)) (take l.record-index l.records)) l.self
