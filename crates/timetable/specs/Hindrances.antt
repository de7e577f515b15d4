-- What stands in the way of a plan.
--
--   hindered    the lowest event where delays meet, or else the lowest tangled lot, or else nothing
use Rattle.std.specs.Prelude.{ℕ, Some, None, Option}
use Rattle.model.specs.Yard.{Yard, event_count}
use Rattle.model.specs.Meeting.{meets}
use Rattle.model.specs.Lots.{lot_count}
use Rattle.model.specs.Tangles.{tangled}
use Rattle.timetable.specs.Found.{found_first}
use Rattle.timetable.specs.declared.forecast.hindrance.Hindrance.{Hindrance}
use Rattle.timetable.specs.declared.forecast.hindrance.Hindrance.TheVariants.{Meeting, Tangle}

abbrev pub or_tangle : Option ℕ → Option Hindrance
or_tangle (Some lot) = Some (Tangle lot)
or_tangle None = None

abbrev pub or_else : Option ℕ → Option ℕ → Option Hindrance
or_else (Some event) lot = Some (Meeting event)
or_else None lot = or_tangle lot

abbrev pub hindered : Yard → Option Hindrance
hindered g = or_else (found_first (event_count g) (meets g)) (found_first (lot_count g) (tangled g))
