use Rattle.std.proofs.Common.{◌≡◌, ◌++◌, take, vec_items}
use Rattle.listing_read.specs.Numbers.{numbers_bytes}
use Rattle.listing_read.proofs.draft.add_numbers.Given as goal

-- the bytes of the numbers before this one have been added
abbrev pub invariant-loop-number : goal.invariant-loop-number
invariant-loop-number l = vec_items l.bytes ≡ vec_items l.initial.bytes ++ numbers_bytes (take l.number-index l.numbers)
