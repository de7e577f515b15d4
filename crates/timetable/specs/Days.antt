-- A day, and the yard that it means.
--
--   tried        the transfer on trial counts as struck
--   mark_on      an activity's mark, the trial's strike included
--   yard_of      the yard of a day under a rule
--   stance_at    how an activity stands: bound, open to the choice, or gone; stance_on: on a day
--   WorstIn      a table that holds the worst timetable
--   Ready        what every day keeps: a well-formed sheet, a delay of at most the period for each event, a mark for each activity
use Rattle.std.specs.Prelude.{◌≡◌, ℕ, ◌<◌, ◌≤◌, Bool, true, false, List, length, Some, None, Option, ◌==◌, slice_index, slice_index_or}
use Rattle.sheet.specs.declared.records.Kind.{Kind}
use Rattle.sheet.specs.declared.records.Kind.TheVariants.{Drive, Stand, Transfer}
use Rattle.sheet.specs.declared.records.Activity.{Activity}
use Rattle.sheet.specs.Rules.{Tables, activity_at, well_formed}
use Rattle.sheet.specs.Sheets.{tables_of}
use Rattle.model.specs.declared.mark.Mark.{Mark}
use Rattle.model.specs.declared.mark.Mark.TheVariants.{Unmarked, Held, Struck}
use Rattle.model.specs.Yard.{Yard}
use Rattle.model.specs.Lateness.{worst}
use Rattle.model.specs.Laws.{yard}
use Rattle.timetable.specs.declared.day.MarkRecord.{MarkRecord}
use Rattle.timetable.specs.declared.day.stance.Stance.{Stance}
use Rattle.timetable.specs.declared.day.stance.Stance.TheVariants.{Bound, Open, Gone}
use Rattle.timetable.specs.declared.day.Day.{Day}

abbrev pub tried : Option ℕ → ℕ → Bool
tried None a = false
tried (Some struck) a = struck == a

-- what stands past the end of the marks
abbrev pub no_mark : MarkRecord
no_mark = record { mark = Unmarked }

-- a mark, or struck for the trial
abbrev pub marked : Bool → Mark → Mark
marked true m = Struck
marked false m = m

abbrev pub mark_on : List MarkRecord → Option ℕ → ℕ → Mark
mark_on marks trial a = marked (tried trial a) (slice_index_or marks a no_mark).mark

abbrev pub by_mark : Mark → Stance
by_mark Unmarked = Open
by_mark Held = Bound
by_mark Struck = Gone

abbrev pub stance_of : Kind → Mark → Bool → Stance
stance_of Drive m struck = Bound
stance_of Stand m struck = Bound
stance_of Transfer m struck = by_mark (marked struck m)

abbrev pub stance_at : List Activity → List MarkRecord → Option ℕ → ℕ → Stance
stance_at activities marks trial a = stance_of (activity_at activities a).kind (slice_index_or marks a no_mark).mark (tried trial a)

abbrev pub stance_on : Day → ℕ → Stance
stance_on d a = stance_at d.sheet.activities.now d.marks.now d.trial a

-- the sheet of a day, and the yard that the day is under a rule
abbrev pub sheet_on : Day → Tables
sheet_on d = tables_of d.sheet

abbrev pub delay_on : List ℕ → ℕ → ℕ
delay_on delays e = slice_index delays e

abbrev pub yard_of : (ℕ → ℕ → ℕ) → Day → Yard
yard_of rule d = yard (sheet_on d) rule (delay_on d.delays.now) (mark_on d.marks.now d.trial)

pub record Ready (d : Day) : Type 0 where
  pub formed : well_formed (sheet_on d) ≡ true
  pub delays : length d.sheet.events.now ≤ length d.delays.now
  pub marks : length d.sheet.activities.now ≤ length d.marks.now
  pub reported : (e : ℕ) → e < length d.sheet.events.now → slice_index d.delays.now e ≤ d.sheet.period

-- every day keeps it
pub ready : (d : Day) → Ready d
ready d = record { formed = d.sheet.kept; delays = d.delays_for_all; marks = d.marks_for_all; reported = d.timely }

-- a table that holds the worst timetable in its front
pub record WorstIn (rule : ℕ → ℕ → ℕ) (d : Day) (late : List ℕ) : Type 0 where
  pub room : length d.sheet.events.now ≤ length late
  pub holds : (e : ℕ) → e < length d.sheet.events.now → slice_index late e ≡ worst (yard_of rule d) e
