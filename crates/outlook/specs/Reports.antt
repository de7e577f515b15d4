-- Reports: which are refused, and what they note.
--
--   fault_in       what is wrong with a report, if anything
--   first_fault    what is wrong with the first report at fault
--   noted_after    what is noted of an event after some reports, where there was a note before
--   noted_delay    an event's noted delay: its last report, or 0
use Rattle.std.specs.Prelude.{ℕ, cond, List, [], ◌∷◌, length, Some, None, Option, ◌==◌, nat_le, nat_lt}
use Rattle.sheet.specs.Rules.{Tables}
use Rattle.outlook.specs.declared.answer.OutlookFault.{OutlookFault}
use Rattle.outlook.specs.declared.answer.OutlookFault.TheVariants.{NoEvent, TooLong}
use Rattle.outlook.specs.declared.report.Report.{Report}

-- what stands past the end of the reports
abbrev pub no_report : Report
no_report = record { event = 0; minutes = 0 }

-- the event is tested before the minutes
abbrev pub fault_in : Tables → Report → Option OutlookFault
fault_in t r = cond (nat_le (length t.events) r.event) (Some NoEvent) (cond (nat_lt t.period r.minutes) (Some TooLong) None)

-- the first answer, or else the second
abbrev pub or_else : {A : Type 0} → Option A → Option A → Option A
or_else (Some x) o = Some x
or_else None o = o

unfoldable pub first_fault : Tables → List Report → Option OutlookFault
first_fault t [] = None
first_fault t (r ∷ rs) = or_else (fault_in t r) (first_fault t rs)

-- a report of the event replaces what was noted
abbrev pub renoted : ℕ → ℕ → Report → ℕ
renoted e before r = cond (r.event == e) r.minutes before

unfoldable pub noted_after : ℕ → ℕ → List Report → ℕ
noted_after e before [] = before
noted_after e before (r ∷ rs) = noted_after e (renoted e before r) rs

abbrev pub noted_delay : List Report → ℕ → ℕ
noted_delay rs e = noted_after e 0 rs
