-- How the sorts of records are written: a side, a kind, a class. Each has a number in a sheet's bytes (side_number and its like)
-- and a word in lines of text.
--
--   side_of, kind_of, class_of              the sort that a number stands for, if any
--   side_word, kind_word, class_word        the word for a sort
--   side_called, kind_called, class_called  the sort that a word names, if any
use Rattle.std.specs.Prelude.{ℕ, zero, suc, cond, List, Some, None, codes, Option}
use Rattle.std.specs.Str.{bytes_eq}
use Rattle.sheet.specs.declared.records.Side.{Side}
use Rattle.sheet.specs.declared.records.Side.TheVariants.{Arrival, Departure}
use Rattle.sheet.specs.declared.records.Kind.{Kind}
use Rattle.sheet.specs.declared.records.Kind.TheVariants.{Drive, Stand, Transfer}
use Rattle.sheet.specs.declared.records.Class.{Class}
use Rattle.sheet.specs.declared.records.Class.TheVariants.{Ordinary, Express}

abbrev pub side_of : ℕ → Option Side
side_of zero = Some Arrival
side_of (suc zero) = Some Departure
side_of (suc (suc n)) = None

abbrev pub kind_of : ℕ → Option Kind
kind_of zero = Some Drive
kind_of (suc zero) = Some Stand
kind_of (suc (suc zero)) = Some Transfer
kind_of (suc (suc (suc n))) = None

abbrev pub class_of : ℕ → Option Class
class_of zero = Some Ordinary
class_of (suc zero) = Some Express
class_of (suc (suc n)) = None

abbrev pub side_word : Side → List ℕ
side_word Arrival = codes "arrival"
side_word Departure = codes "departure"

abbrev pub kind_word : Kind → List ℕ
kind_word Drive = codes "drive"
kind_word Stand = codes "stand"
kind_word Transfer = codes "transfer"

abbrev pub class_word : Class → List ℕ
class_word Ordinary = codes "ordinary"
class_word Express = codes "express"

abbrev pub side_called : List ℕ → Option Side
side_called word = cond (bytes_eq word (codes "arrival")) (Some Arrival) (cond (bytes_eq word (codes "departure")) (Some Departure) None)

abbrev pub kind_called : List ℕ → Option Kind
kind_called word =
    cond (bytes_eq word (codes "drive")) (Some Drive)
    (cond (bytes_eq word (codes "stand")) (Some Stand)
    (cond (bytes_eq word (codes "transfer")) (Some Transfer) None))

abbrev pub class_called : List ℕ → Option Class
class_called word = cond (bytes_eq word (codes "ordinary")) (Some Ordinary) (cond (bytes_eq word (codes "express")) (Some Express) None)
