use Rattle.std.proofs.Common.{◌≡◌, ℕ, ◌/◌, ◌%◌, ◌<◌, List, [], ◌∷◌, ◌++◌, get_or, vec_items, ap, ◌∙◌, mod-eq_of_lt, arith}
use Rattle.sheet.specs.Bytes.{number_bytes}
use Rattle.listing.proofs.Joined.{grows, has_all}
use Rattle.listing_read.proofs.draft.add_numbers.Goals as goal

-- the high byte of a number of 16 bits needs no cutting
high_low : (n : ℕ) → n < 65536 → (n / 256 % 256) ∷ (n % 256) ∷ [] ≡ number_bytes n
high_low n h = let small : n / 256 < 256 = omega arith in ap (λ (b : ℕ). b ∷ (n % 256) ∷ []) (mod-eq_of_lt small)

pub loop-number-preserved : goal.loop-number-preserved
loop-number-preserved c =
    let n = get_or c.args.numbers.now c.loop-number.number-index 0 in
    let h : n < 65536 = omega (arith, c.type_inv.numbers c.loop-number.number-index) in
    grows number_bytes (vec_items c.args.bytes.now) (vec_items c.loop-number.bytes) (vec_items c.extend_from_slice.new.self) c.args.numbers.now c.loop-number.number-index 0 c.loop-number-test.true c.loop-number.invariant
    (c.in_ok-extend_from_slice.ensures.items ∙ ap (λ (l : List ℕ). vec_items c.loop-number.bytes ++ l) (c.to_be_bytes.ensures ∙ high_low n h))

pub returns : goal.returns
returns c = has_all number_bytes (vec_items c.args.bytes.now) (vec_items c.loop-number.bytes) c.args.numbers.now c.loop-number.number-index c.loop-number-test.false c.loop-number.invariant
