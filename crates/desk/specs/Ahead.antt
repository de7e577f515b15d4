-- What the desk tells of reported delays.
--
--   outlook_text    the three lines of a yard's outlook
--   Foreseen        a text is the outlook of the sheet whose bytes these are, under a rule and reports that it takes
--   Unforeseen      a report is at fault by the sheet whose bytes these are
--   BlamesAhead     what the desk says where there is no outlook
--   Spoils          the same, of a sheet that was read
use Rattle.std.specs.Prelude.{◌≡◌, ℕ, Bool, true, List, ◌++◌, map, length, Some, None, Err, codes, Result}
use Rattle.std.specs.List.{range_with_len}
use Rattle.sheet.specs.Rules.{Tables, well_formed}
use Rattle.sheet.specs.Bytes.{bytes_of}
use Rattle.sheet_read.specs.declared.fault.SheetFault.{SheetFault}
use Rattle.sheet_read.specs.declared.read.Extent.{Extent}
use Rattle.model.specs.Yard.{Yard}
use Rattle.model.specs.Lateness.{worst}
use Rattle.model.specs.Meeting.{live}
use Rattle.outlook.specs.declared.answer.OutlookFault.{OutlookFault}
use Rattle.outlook.specs.declared.answer.Verdict.{Verdict}
use Rattle.outlook.specs.declared.report.Report.{Report}
use Rattle.outlook.specs.Answers.{verdict_text}
use Rattle.outlook.specs.Lines.{late_line, live_line}
use Rattle.outlook.specs.Reports.{first_fault}
use Rattle.outlook.specs.Outlook.{ahead, verdict_of}
use Rattle.desk.specs.declared.fault.DeskFault.{DeskFault}
use Rattle.desk.specs.declared.fault.DeskFault.TheVariants.{Refused, Line, Unseen, Memory}

-- a line for a timetable, one for the live activities, one for the verdict
abbrev pub three_lines : List ℕ → List Bool → Verdict → List ℕ
three_lines late lives verdict = late_line late ++ (codes "\n" ++ (live_line lives ++ (codes "\n" ++ (verdict_text verdict ++ codes "\n"))))

-- f 0, f 1, .. f (n - 1)
abbrev pub listed : {A : Type 0} → ℕ → (ℕ → A) → List A
listed n f = map f (range_with_len 0 n)

abbrev pub outlook_text : Yard → List ℕ
outlook_text g = three_lines (listed (length g.sheet.events) (worst g)) (listed (length g.sheet.activities) (live g)) (verdict_of g)

pub record Foreseen (rule : ℕ → ℕ → ℕ) (bytes : List ℕ) (reports : List Report) (text : List ℕ) : Type 0 where
  pub sheet : Tables
  pub kept : well_formed sheet ≡ true
  pub read : bytes_of sheet ≡ bytes
  pub taken : first_fault sheet reports ≡ None
  pub told : text ≡ outlook_text (ahead rule sheet reports)

pub record Unforeseen (bytes : List ℕ) (reports : List Report) (fault : OutlookFault) : Type 0 where
  pub sheet : Tables
  pub kept : well_formed sheet ≡ true
  pub read : bytes_of sheet ≡ bytes
  pub first : first_fault sheet reports ≡ Some fault

-- a refusal of the sheet is the reader's own; memory may always fail
abbrev pub BlamesAhead : Result Extent SheetFault → List ℕ → List Report → DeskFault → Type 0
BlamesAhead answer bytes reports (Refused f) = answer ≡ Err f
BlamesAhead answer bytes reports (Line text) = ⊥
BlamesAhead answer bytes reports (Unseen f) = Unforeseen bytes reports f
BlamesAhead answer bytes reports Memory = Unit {0}

abbrev pub Spoils : Tables → List Report → DeskFault → Type 0
Spoils t reports (Refused f) = ⊥
Spoils t reports (Line text) = ⊥
Spoils t reports (Unseen f) = first_fault t reports ≡ Some f
Spoils t reports Memory = Unit {0}
