use Rattle.std.proofs.Common.{◌≡◌, ℕ, List, ◌++◌, vec_items, ap, ◌∙◌}
use Rattle.std.proofs.lemmas.Result.{on_ok_weaker}
use Rattle.sheet.specs.Bytes.{number_bytes}
use Rattle.listing_read.specs.Numbers.{numbers_bytes, numbers_of}
use Rattle.listing.proofs.Joined.{then_more}
use Rattle.listing_read.proofs.draft.Section.add_to.Goals as goal

pub returns : goal.returns
returns c =
    let s = c.args.self.now in
    let all = vec_items c.add_numbers-2.new.bytes in
    let last = λ (e : all ≡ vec_items c.add_numbers.new.bytes ++ numbers_bytes c.as_slice.result.now).
    then_more (vec_items c.args.bytes.now) (number_bytes s.count) (numbers_bytes (numbers_of s)) _ all c.in_ok-add_numbers.ensures
    (e ∙ ap (λ (l : List ℕ). vec_items c.add_numbers.new.bytes ++ numbers_bytes l) c.as_slice.ensures.value) in
    on_ok_weaker c.add_numbers-2.result last c.add_numbers-2.ensures
