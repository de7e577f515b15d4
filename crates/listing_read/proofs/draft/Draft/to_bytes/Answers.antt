use Rattle.listing_read.specs.Numbers.{part_bytes}
use Rattle.listing.proofs.Joined.{four_in_a_row}
use Rattle.listing_read.proofs.draft.Draft.to_bytes.Goals as goal

pub returns : goal.returns
returns c =
    let d = c.args.self.now in
    four_in_a_row (part_bytes d.terms) (part_bytes d.events) (part_bytes d.activities) (part_bytes d.lots) _ _ _ _ _ c.new-bytes.ensures.items c.in_ok-add_to.ensures c.in_ok-add_to-2.ensures c.in_ok-add_to-3.ensures c.in_ok-add_to-4.ensures
