-- What each answer of the outlook is told as.
--
--   refusal_number    the number of every fault
--   refusal_text      the line that tells it
--   verdict_text      the line of every verdict, with its event or lot
use Rattle.std.specs.Prelude.{ℕ, List, ◌++◌, Some, None, Option, codes, decimal}
use Rattle.timetable.specs.declared.forecast.hindrance.Hindrance.{Hindrance}
use Rattle.timetable.specs.declared.forecast.hindrance.Hindrance.TheVariants.{Meeting, Tangle}
use Rattle.outlook.specs.declared.answer.Verdict.{Verdict}
use Rattle.outlook.specs.declared.answer.OutlookFault.{OutlookFault}
use Rattle.outlook.specs.declared.answer.OutlookFault.TheVariants.{NoEvent, TooLong, ShortTable}

-- 9 no such event; 10 minutes above the period; 15 a table too short
abbrev pub refusal_number : OutlookFault → ℕ
refusal_number NoEvent = 9
refusal_number TooLong = 10
refusal_number ShortTable = 15

abbrev pub refusal_text : OutlookFault → List ℕ
refusal_text fault = codes "refused " ++ decimal (refusal_number fault)

abbrev pub hindrance_text : Option Hindrance → List ℕ
hindrance_text (Some (Meeting event)) = codes "meet " ++ decimal event
hindrance_text (Some (Tangle lot)) = codes "tangled " ++ decimal lot
hindrance_text None = codes "clear"

abbrev pub verdict_text : Verdict → List ℕ
verdict_text verdict = hindrance_text verdict.0
