-- The lines of an outlook, as bytes, without the line's end.
--
--   number_word      a number with a blank before it
--   picked_words     the numbers below n whose cell is true, a blank before each
--   late_line        the lateness of each event
--   live_line        the live activities, by number
use Rattle.std.specs.Prelude.{ℕ, zero, suc, Bool, false, cond, List, [], ◌++◌, length, codes, decimal, slice_index_or}
use Rattle.words.specs.Rows.{numbers_row}

abbrev pub number_word : ℕ → List ℕ
number_word n = codes " " ++ decimal n

unfoldable pub picked_words : List Bool → ℕ → List ℕ
picked_words cells zero = []
picked_words cells (suc n) = picked_words cells n ++ cond (slice_index_or cells n false) (number_word n) []

-- lateness 10 8 7 8 6
abbrev pub late_line : List ℕ → List ℕ
late_line late = codes "lateness" ++ numbers_row late

-- live 0 1 2 3
abbrev pub live_line : List Bool → List ℕ
live_line lives = codes "live" ++ picked_words lives (length lives)
