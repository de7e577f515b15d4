-- Where a lot is tangled.
--
--   Tangled       a way with a live transfer and a later step that is not live, and then a live transfer again or a late end
--   TangledLot    a lot without a struck transfer whose way is so
--   tangled       the same, found by going along the way once
use Rattle.std.specs.Prelude.{◌≡◌, ℕ, Bool, true, false, not, ◌&&◌, ◌||◌, ◌⊎◌, List, [], ◌∷◌, ◌++◌, nat_lt}
use Rattle.model.specs.Yard.{Yard, transfer}
use Rattle.model.specs.Finite.{some}
use Rattle.model.specs.Lateness.{worst}
use Rattle.model.specs.Meeting.{live}
use Rattle.model.specs.Lots.{path, end, whole}

-- `hot` steps are the live transfers, `on` steps the live ones
pub record Tangled (hot on : ℕ → Bool) (late : Bool) (s : List ℕ) : Type 0 where
  pub before : List ℕ
  pub at : ℕ
  pub between : List ℕ
  pub gap : ℕ
  pub after : List ℕ
  pub is : s ≡ before ++ (at ∷ (between ++ (gap ∷ after)))
  pub warm : hot at ≡ true
  pub off : on gap ≡ false
  pub again : (some hot after ≡ true) ⊎ (late ≡ true)

abbrev pub hot : Yard → ℕ → Bool
hot g a = live g a && transfer g a

abbrev pub late_end : Yard → ℕ → Bool
late_end g i = nat_lt 0 (worst g (end g i))

pub record TangledLot (g : Yard) (i : ℕ) : Type 0 where
  pub no_strike : whole g i ≡ true
  pub way : Tangled (hot g) (live g) (late_end g i) (path g i)

-- what was seen so far: a hot step; after it one that is off; after that a hot one
unfoldable pub scan : (hot on : ℕ → Bool) → Bool → Bool → Bool → Bool → List ℕ → Bool
scan hot on late seen gap again [] = again || (gap && late)
scan hot on late seen gap again (b ∷ s) = scan hot on late (seen || hot b) (gap || (seen && not (on b))) (again || (gap && hot b)) s

unfoldable pub tangled : Yard → ℕ → Bool
tangled g i = whole g i && scan (hot g) (live g) (late_end g i) false false false (path g i)
