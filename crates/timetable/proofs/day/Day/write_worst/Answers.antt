use Rattle.model.specs.Lateness.{worst}
use Rattle.timetable.proofs.day.Day.write_worst.Goals as goal

pub returns : goal.returns
unfolding worst
returns g c = record { cells = c.write_least.ensures.cells; kept = c.write_least.ensures.kept }
