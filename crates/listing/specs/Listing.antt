-- A sheet's whole listing, as bytes.
--
--   ended         a line with its end
--   events_lines, activities_lines, lots_lines    the lines of a table, in its order
--   listing_of    the listing of a sheet's tables
use Rattle.std.specs.Prelude.{ℕ, List, [], ◌∷◌, ◌++◌}
use Rattle.std.specs.List.{flat_map}
use Rattle.sheet.specs.declared.records.Event.{Event}
use Rattle.sheet.specs.declared.records.Activity.{Activity}
use Rattle.sheet.specs.declared.records.Lot.{Lot}
use Rattle.sheet.specs.Rules.{Tables, stretch}
use Rattle.listing.specs.Lines.{period_line, event_line, activity_line, lot_line}

abbrev pub ended : List ℕ → List ℕ
ended line = line ++ 10 ∷ []

abbrev pub ended_event : Event → List ℕ
ended_event e = ended (event_line e)

abbrev pub ended_activity : Activity → List ℕ
ended_activity a = ended (activity_line a)

-- a lot's line has the lot's own stretch of the steps
abbrev pub ended_lot : List ℕ → Lot → List ℕ
ended_lot steps l = ended (lot_line l.class l.parcels (stretch l steps))

abbrev pub events_lines : List Event → List ℕ
events_lines events = flat_map ended_event events

abbrev pub activities_lines : List Activity → List ℕ
activities_lines activities = flat_map ended_activity activities

abbrev pub lots_lines : Tables → List ℕ
lots_lines t = flat_map (ended_lot t.steps) t.lots

abbrev pub listing_of : Tables → List ℕ
listing_of t = ended (period_line t.period) ++ (events_lines t.events ++ (activities_lines t.activities ++ lots_lines t))
