use Rattle.sheet.specs.Rules.{stretch}
use Rattle.listing.specs.Lines.{event_line, activity_line, lot_line}
use Rattle.listing.proofs.show.listing.Given as goal

-- the line of each table's records
abbrev pub ghost-add_lines : goal.ghost-add_lines
ghost-add_lines a = event_line

abbrev pub ghost-add_lines-2 : goal.ghost-add_lines-2
ghost-add_lines-2 a = activity_line

abbrev pub ghost-add_lines-3 : goal.ghost-add_lines-3
ghost-add_lines-3 a = λ lot. lot_line lot.class lot.parcels (stretch lot a.line.0.now)
