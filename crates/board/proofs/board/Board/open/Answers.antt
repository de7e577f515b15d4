use Rattle.std.proofs.Common.{◌≡◌, ℕ, get_or, replicate, refl, ap, ◌∙◌, arith}
use mathlib.Core.Path.{fun_ext}
use Rattle.model.specs.declared.mark.Mark.{Mark}
use Rattle.sheet.specs.Sheets.{tables_of}
use Rattle.timetable.specs.declared.day.MarkRecord.{MarkRecord}
use Rattle.timetable.specs.Days.{no_mark}
use Rattle.board.proofs.Cells.{all_alike}
use Rattle.board.proofs.board.Board.open.Goals as goal

pub invariant_of-result : goal.invariant_of-result
invariant_of-result c = record { timely = λ k. omega (arith, all_alike {X = ℕ} 512 0 k); resting = refl }

pub returns : goal.returns
returns c =
    let delays : (λ (k : ℕ). get_or (replicate {A = ℕ} 512 0) k 0) ≡ (λ k. 0) = fun_ext (all_alike {X = ℕ} 512 0) in
    let marks : (λ (k : ℕ). (get_or (replicate 1024 no_mark) k no_mark).mark) ≡ (λ k. no_mark.mark) = fun_ext (λ k. ap (λ (r : MarkRecord). r.mark) (all_alike 1024 no_mark k)) in
    ap (λ (f : ℕ → ℕ). record { sheet = tables_of c.args.sheet; number = c.args.number; delay = f; mark = λ (k : ℕ). (get_or (replicate 1024 no_mark) k no_mark).mark }) delays
    ∙ ap (λ (f : ℕ → Mark). record { sheet = tables_of c.args.sheet; number = c.args.number; delay = λ (k : ℕ). 0; mark = f }) marks
