-- What is seen ahead of reported delays.
--
--   refusal_in    why there is no outlook, if there is none: the first report at fault, then a table too short
--   ahead         the yard of a sheet under a rule, with the reported delays and with no transfer marked
--   verdict_of    the verdict on a yard: the first event where delays meet, or else the first tangled lot, or else nothing
--   Filled        a table whose front holds a function's values, and whose further cells are as they were
--   ShowsWorst    a table is filled with a yard's worst timetable; ShowsLive: with whether each activity is live
use Rattle.std.specs.Prelude.{◌≡◌, ℕ, ◌<◌, ◌≤◌, Bool, false, cond, ◌||◌, List, length, Some, None, Option, nat_lt, slice_index_or}
use Rattle.sheet.specs.Rules.{Tables}
use Rattle.model.specs.declared.mark.Mark.{Mark}
use Rattle.model.specs.declared.mark.Mark.TheVariants.{Unmarked}
use Rattle.model.specs.Yard.{Yard}
use Rattle.model.specs.Lateness.{worst}
use Rattle.model.specs.Meeting.{live}
use Rattle.model.specs.Laws.{yard}
use Rattle.timetable.specs.Hindrances.{hindered}
use Rattle.outlook.specs.declared.answer.Verdict.{Verdict}
use Rattle.outlook.specs.declared.answer.OutlookFault.{OutlookFault}
use Rattle.outlook.specs.declared.answer.OutlookFault.TheVariants.{ShortTable}
use Rattle.outlook.specs.declared.report.Report.{Report}
use Rattle.outlook.specs.Reports.{first_fault, or_else, noted_delay}

-- a cell is needed for each event, and one for each activity
abbrev pub short_in : Tables → ℕ → ℕ → Option OutlookFault
short_in t late_cells live_cells = cond (nat_lt late_cells (length t.events) || nat_lt live_cells (length t.activities)) (Some ShortTable) None

abbrev pub refusal_in : Tables → List Report → ℕ → ℕ → Option OutlookFault
refusal_in t reports late_cells live_cells = or_else (first_fault t reports) (short_in t late_cells live_cells)

abbrev pub unmarked_all : ℕ → Mark
unmarked_all a = Unmarked

abbrev pub ahead : (ℕ → ℕ → ℕ) → Tables → List Report → Yard
ahead rule t reports = yard t rule (noted_delay reports) unmarked_all

abbrev pub verdict_of : Yard → Verdict
verdict_of g = record { 0 = hindered g }

pub record Filled {A : Type 0} (none : A) (n : ℕ) (value : ℕ → A) (before after : List A) : Type 0 where
  pub cells : (k : ℕ) → k < n → slice_index_or after k none ≡ value k
  pub kept : (k : ℕ) → n ≤ k → slice_index_or after k none ≡ slice_index_or before k none

abbrev pub ShowsWorst : Yard → List ℕ → List ℕ → Type 0
ShowsWorst g before after = Filled 0 (length g.sheet.events) (worst g) before after

abbrev pub ShowsLive : Yard → List Bool → List Bool → Type 0
ShowsLive g before after = Filled false (length g.sheet.activities) (live g) before after
