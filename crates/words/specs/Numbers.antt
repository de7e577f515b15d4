-- The number of a word.
--
--   value_of     the number that digits write
--   is_number    a word is a decimal of at most 65,535
--   number_of    its number, if it is one
use Rattle.std.specs.Prelude.{ℕ, ◌+◌, ◌-◌, ◌*◌, Bool, cond, ◌&&◌, List, [], ◌∷◌, length, Some, None, Option, nat_lt}
use Rattle.std.specs.Str.{all_ascii_digits}

abbrev pub value_on : ℕ → List ℕ → ℕ
value_on n [] = n
value_on n (c ∷ cs) = value_on (10 * n + (c - 48)) cs

abbrev pub value_of : List ℕ → ℕ
value_of word = value_on 0 word

abbrev pub is_number : List ℕ → Bool
is_number word = nat_lt 0 (length word) && (all_ascii_digits word && nat_lt (value_of word) 65536)

abbrev pub number_of : List ℕ → Option ℕ
number_of word = cond (is_number word) (Some (value_of word)) None
