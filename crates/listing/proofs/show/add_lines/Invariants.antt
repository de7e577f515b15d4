use Rattle.std.proofs.Common.{◌≡◌, ◌++◌, take, string_bytes}
use Rattle.std.specs.List.{flat_map}
use Rattle.listing.specs.Listing.{ended}
use Rattle.listing.proofs.show.add_lines.Given as goal

-- the lines of the records before this one have been added
abbrev pub invariant-loop-record : goal.invariant-loop-record
invariant-loop-record g l = string_bytes l.text ≡ string_bytes l.initial.text ++ flat_map (λ r. ended (g.shown r)) (take l.record-index l.records)
