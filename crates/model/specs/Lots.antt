-- The lots on their ways.
--
--   lot_count    how many lots there are
--   path         a lot's steps
--   end          where a lot ends: the head of its last step; finish: the same of a way
--   whole        a lot without a struck transfer; unstruck: the same of a way
--   over         a way with a step of a number
--   missed       a lot that goes through a gone transfer
use Rattle.std.specs.Prelude.{ℕ, Bool, not, List, [], ◌∷◌, length, nat_eq}
use Rattle.sheet.specs.declared.records.Lot.{Lot}
use Rattle.sheet.specs.Rules.{lot_at, stretch}
use Rattle.model.specs.Yard.{Yard, tail, head, struck}
use Rattle.model.specs.Finite.{some}
use Rattle.model.specs.Lateness.{Choice, binds}

unfoldable pub lot_count : Yard → ℕ
lot_count g = length g.sheet.lots

abbrev pub the_lot : Yard → ℕ → Lot
the_lot g i = lot_at g.sheet.lots i

unfoldable pub path : Yard → ℕ → List ℕ
path g i = stretch (the_lot g i) g.sheet.steps

-- where a way comes to that begins at e
unfoldable pub ends : Yard → ℕ → List ℕ → ℕ
ends g e [] = e
ends g e (a ∷ s) = ends g (head g a) s

-- where a way begins
abbrev pub begins : Yard → List ℕ → ℕ
begins g [] = 0
begins g (a ∷ s) = tail g a

abbrev pub start : Yard → ℕ → ℕ
start g i = begins g (path g i)

abbrev pub finish : Yard → List ℕ → ℕ
finish g s = ends g (begins g s) s

abbrev pub end : Yard → ℕ → ℕ
end g i = ends g (start g i) (path g i)

abbrev pub unstruck : Yard → List ℕ → Bool
unstruck g s = not (some (struck g) s)

abbrev pub whole : Yard → ℕ → Bool
whole g i = not (some (struck g) (path g i))

abbrev pub over : ℕ → List ℕ → Bool
over a s = some (λ b. nat_eq b a) s

abbrev pub gone : Yard → Choice → ℕ → Bool
gone g z a = not (binds g z a)

abbrev pub missed : Yard → Choice → ℕ → Bool
missed g z i = some (gone g z) (path g i)
