-- A day with the reported delays and no mark: what is known of it, and the yard that it is.
use Rattle.std.proofs.Common.{◌≡◌, ℕ, zero, suc, ◌≤◌, true, leb, List, length, get_or, replicate, None, refl, ap, ◌∙◌, ap₂, arith}
use mathlib.Core.Path.{fun_ext}
use lib.ListN.{length-replicate}
use Rattle.std.proofs.lemmas.Bool.{and_parts, leb-true}
use Rattle.sheet.specs.Rules.{Tables, well_formed, between}
use Rattle.sheet.proofs.Stretches.{kept_of}
use Rattle.model.specs.Laws.{yard}
use Rattle.timetable.specs.declared.day.MarkRecord.{MarkRecord}
use Rattle.timetable.specs.Days.{no_mark, mark_on, delay_on}
use Rattle.outlook.specs.declared.report.Report.{Report}
use Rattle.outlook.specs.Reports.{first_fault, noted_after, noted_delay}
use Rattle.outlook.specs.Outlook.{ahead, unmarked_all}
use Rattle.outlook.proofs.Noting.{all_sound, noted_short}

-- every cell of a blank table is blank, and so is what stands past its end
blank : {A : Type 0} (n i : ℕ) (x : A) → get_or (replicate n x) i x ≡ x
blank zero i x = refl
blank (suc n) zero x = refl
blank (suc n) (suc i) x = blank n i x

-- a sheet has at most 512 events and 1,024 activities
pub few : (t : Tables) → well_formed t ≡ true → (length t.events ≤ 512) × (length t.activities ≤ 1024)
few t h =
    let a = and_parts (between 1 512 (length t.events)) _ (kept_of t h).sizes in
    let b = and_parts (leb 1 (length t.events)) (leb (length t.events) 512) a.0 in
    let c = and_parts (leb (length t.activities) 1024) _ a.1 in
    (leb-true (length t.events) 512 b.1, leb-true (length t.activities) 1024 c.0)

pub marks_enough : (t : Tables) (marks : List MarkRecord) → well_formed t ≡ true → marks ≡ replicate 1024 no_mark → length t.activities ≤ length marks
marks_enough t marks h m = let n = ap length m ∙ length-replicate 1024 no_mark in omega (arith, (few t h).1, n)

-- delays noted in a blank table
abbrev pub NotedIn : List ℕ → List Report → Type 0
NotedIn delays rs = (e : ℕ) → get_or delays e 0 ≡ noted_after e (get_or (replicate 512 0) e 0) rs

noted_so : (delays : List ℕ) (rs : List Report) → NotedIn delays rs → (e : ℕ) → get_or delays e 0 ≡ noted_delay rs e
noted_so delays rs n e = n e ∙ ap (λ (x : ℕ). noted_after e x rs) (blank 512 e 0)

pub delays_short : (t : Tables) (delays : List ℕ) (rs : List Report) → first_fault t rs ≡ None → NotedIn delays rs → (e : ℕ) → get_or delays e 0 ≤ t.period
delays_short t delays rs h n e = let s = noted_short t rs e 0 (omega arith) (all_sound t rs h) in omega (arith, s, noted_so delays rs n e)

pub yard_ahead : (rule : ℕ → ℕ → ℕ) (t : Tables) (delays : List ℕ) (marks : List MarkRecord) (rs : List Report) → NotedIn delays rs → marks ≡ replicate 1024 no_mark
    → yard t rule (delay_on delays) (mark_on marks None) ≡ ahead rule t rs
yard_ahead rule t delays marks rs n m =
    ap₂ (yard t rule) (fun_ext (noted_so delays rs n)) (fun_ext bare)
  where
    bare : (a : ℕ) → mark_on marks None a ≡ unmarked_all a
    bare a = ap (λ (ms : List MarkRecord). (get_or ms a no_mark).mark) m ∙ ap (λ (r : MarkRecord). r.mark) (blank 1024 a no_mark)
