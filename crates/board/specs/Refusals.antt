-- Refusals: the number of each, and how it is printed.
use Rattle.std.specs.Prelude.{ℕ, List, ◌++◌, codes, decimal}
use Rattle.board.specs.declared.refusal.Refusal.{Refusal}
use Rattle.board.specs.declared.refusal.Refusal.TheVariants.{NoSuch, TooLong, NoTransfer, Marked, NotStruck, ShortTable, Meeting, Tangle}

abbrev pub number_of : Refusal → ℕ
number_of NoSuch = 9
number_of TooLong = 10
number_of NoTransfer = 11
number_of Marked = 12
number_of NotStruck = 13
number_of ShortTable = 15
number_of (Meeting event) = 16
number_of (Tangle lot) = 17

-- a release is refused with this number, and no other
abbrev pub not_released : ℕ
not_released = 14

abbrev pub as_line : Refusal → List ℕ
as_line NoSuch = codes "refused " ++ decimal 9
as_line TooLong = codes "refused " ++ decimal 10
as_line NoTransfer = codes "refused " ++ decimal 11
as_line Marked = codes "refused " ++ decimal 12
as_line NotStruck = codes "refused " ++ decimal 13
as_line ShortTable = codes "refused " ++ decimal 15
as_line (Meeting event) = codes "refused " ++ (decimal 16 ++ (codes " event " ++ decimal event))
as_line (Tangle lot) = codes "refused " ++ (decimal 17 ++ (codes " lot " ++ decimal lot))
