use Rattle.std.proofs.Common.{◌≡◌, ℕ, length, take, sym, ap, ◌∙◌, subst}
use Rattle.sheet.specs.Bytes.{bytes_of}
use Rattle.sheet.specs.Sheets.{tables_of}
use Rattle.sheet.proofs.Laying.{take_laid}
use Rattle.sheet_write.specs.Writing.{ReadsBack}
use Rattle.sheet_write.proofs.Back.{read_back}
use Rattle.sheet_write.proofs.write.write_sheet.Goals as goal

pub returns-clause-read_back : goal.returns-clause-read_back
returns-clause-read_back c =
    let s = c.args.sheet.now in
    let t = tables_of s in
    let written : take c.size_of-needed.result c.fill.new.out ≡ bytes_of t =
    ap (λ (n : ℕ). take n c.fill.new.out) c.size_of-needed.ensures ∙ ap (take (length (bytes_of t))) c.fill.ensures ∙ take_laid (bytes_of t) c.args.out.now in
    subst (ReadsBack t) (sym written) (read_back t s.kept)
