use Rattle.std.proofs.Common.{◌≡◌, ℕ, ◌/◌, ◌%◌, List, [], ◌∷◌, get_or, refl, ap, ◌∙◌, arith}
use Rattle.sheet.specs.Laid.{laid}
use Rattle.sheet_write.proofs.Putting.{two_laid}
use Rattle.sheet_write.proofs.page.Page.put_number.Goals as goal

pub returns : goal.returns
returns c =
    let p = c.args.self.now in
    let f = c.ranges.number.fits in
    let high : c.args.number / 256 % 256 ≡ c.args.number / 256 = omega (arith, f) in
    record {
      same = refl;
      room = c.requires;
      place = refl;
      holds = two_laid p.at _ _ p.cells.now c.requires
          ∙ ap (λ (bs : List ℕ). laid p.at (get_or bs 0 0 ∷ get_or bs 1 0 ∷ []) p.cells.now) c.to_be_bytes.ensures
          ∙ ap (λ (n : ℕ). laid p.at (n ∷ c.args.number % 256 ∷ []) p.cells.now) high;
    }
