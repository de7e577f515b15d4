use Rattle.std.proofs.Common.{ℕ, ◌<◌, length, get_or, arith, rules}
use Rattle.std.proofs.iter.Serving.{serving}
use Rattle.sheet.specs.declared.records.Lot.{Lot}
use Rattle.sheet.specs.Rules.{Within}
use Rattle.sheet.specs.Sheets.{tables_of}
use Rattle.sheet.proofs.Stretches.{kept_of, within_steps}
use Rattle.listing.specs.Lines.{period_line}
use Rattle.listing.specs.Listing.{ended, events_lines, activities_lines, lots_lines}
use Rattle.listing.proofs.Joined.{four_in_a_row}
use Rattle.listing.proofs.show.listing.Goals as goal

-- each lot of the sheet has its stretch in the step table
pub add_lines-requires-3 : goal.add_lines-requires-3
add_lines-requires-3 c κs within =
    let s = c.args.sheet.now in
    let k = kept_of (tables_of s) s.kept in
    let own : (i : ℕ) (d : Lot) → i < length s.lots.now → Within s.steps.now (get_or s.lots.now i d) =
    λ i d h. let w = within_steps s.activities.now 0 s.lots.now s.steps.now k.lots i d h in omega (arith, w) in
    (search rules, (search rules, (search rules, ((λ i d h. let o = own i d h in grind serving), (λ r l made. search rules)))))

pub returns : goal.returns
returns c =
    let s = c.args.sheet.now in
    four_in_a_row (ended (period_line s.period)) (events_lines s.events.now) (activities_lines s.activities.now) (lots_lines (tables_of s)) _ _ _ _ _ c.new-text.ensures.bytes c.in_ok-writeln.ensures.bytes c.in_ok-add_lines.ensures c.in_ok-add_lines-2.ensures c.in_ok-add_lines-3.ensures
