-- What is told of tables that an outlook filled, and of reports at fault.
use Rattle.std.proofs.Common.{◌≡◌, ℕ, ◌≤◌, Bool, true, false, List, length, take, Result, ap, ◌∙◌, ap₂, arith}
use Rattle.std.proofs.lemmas.List.FromFn.{fill_by_all}
use Rattle.std.proofs.lemmas.List.{length-take-le, get_or-take}
use Rattle.sheet.specs.Rules.{Tables, well_formed}
use Rattle.sheet.specs.Bytes.{bytes_of}
use Rattle.sheet_read.specs.declared.fault.SheetFault.{SheetFault}
use Rattle.sheet_read.specs.declared.read.Extent.{Extent}
use Rattle.model.specs.Yard.{Yard}
use Rattle.model.specs.Lateness.{worst}
use Rattle.model.specs.Meeting.{live}
use Rattle.outlook.specs.declared.answer.Verdict.{Verdict}
use Rattle.outlook.specs.declared.report.Report.{Report}
use Rattle.outlook.specs.Outlook.{Filled, ShowsWorst, ShowsLive, verdict_of}
use Rattle.desk.specs.declared.fault.DeskFault.{DeskFault}
use Rattle.desk.specs.declared.fault.DeskFault.TheVariants.{Refused, Line, Unseen, Memory}
use Rattle.desk.specs.Ahead.{listed, three_lines, outlook_text, BlamesAhead, Spoils}

-- the front of a filled table
front : {A : Type 0} (none : A) (n : ℕ) (value : ℕ → A) (before after : List A) → n ≤ length after → Filled none n value before after → take n after ≡ listed n value
front none n value before after h f = fill_by_all value (take n after) n none (length-take-le n after h) (λ k l. get_or-take n after k none l ∙ f.cells k l)

pub told_so : (g : Yard) (late old : List ℕ) (lives old_lives : List Bool) (verdict : Verdict) (i j : ℕ) → i ≡ length g.sheet.events → j ≡ length g.sheet.activities → i ≤ length late → j ≤ length lives
    → ShowsWorst g old late → ShowsLive g old_lives lives → verdict ≡ verdict_of g → three_lines (take i late) (take j lives) verdict ≡ outlook_text g
told_so g late old lives old_lives verdict i j p q h k w l v =
    let events = length g.sheet.events in
    let activities = length g.sheet.activities in
    let n : events ≤ length late = omega arith in
    let m : activities ≤ length lives = omega arith in
    ap₂ (λ (x y : ℕ). three_lines (take x late) (take y lives) verdict) p q
    ∙ ap₂ (λ (x : List ℕ) (y : List Bool). three_lines x y verdict) (front 0 events (worst g) old late n w) (front false activities (live g) old_lives lives m l)
    ∙ ap (three_lines (listed events (worst g)) (listed activities (live g))) v

-- a fault found by a sheet is one of the bytes that it was read from
pub spoiled : (answer : Result Extent SheetFault) (bytes : List ℕ) (reports : List Report) (t : Tables) → well_formed t ≡ true → bytes_of t ≡ bytes → (fault : DeskFault) → Spoils t reports fault → BlamesAhead answer bytes reports fault
spoiled answer bytes reports t kept read (Refused f) h = absurd h
spoiled answer bytes reports t kept read (Line text) h = absurd h
spoiled answer bytes reports t kept read (Unseen f) h = record { sheet = t; kept = kept; read = read; first = h }
spoiled answer bytes reports t kept read Memory h = tt
