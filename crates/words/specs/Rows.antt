-- Values in a row, as bytes.
--
--   row_of         each value's text with a blank before it; nothing is said where a value's text is not known
--   numbers_row    the row of some numbers
use Rattle.std.specs.Prelude.{ℕ, List, [], ◌∷◌, ◌++◌, Some, Option, codes, decimal}
use Rattle.std.specs.List.{flat_map}
use Rattle.std.specs.Fmt.{◌++?◌}

abbrev pub row_of : {A : Type 0} → (A → Option (List ℕ)) → List A → Option (List ℕ)
row_of shown [] = Some []
row_of shown (x ∷ xs) = (Some (codes " ") ++? shown x) ++? row_of shown xs

abbrev pub numbers_row : List ℕ → List ℕ
numbers_row ns = flat_map (λ n. codes " " ++ decimal n) ns
