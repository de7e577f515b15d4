-- The bytes of a sheet.
--
--   number_bytes     a number of 16 bits, high byte first
--   side_number, kind_number, class_number    the number for a sort
--   event_numbers, activity_numbers           the numbers of a record
--   event_bytes, activity_bytes, lot_bytes    one record
--   section_bytes    a section: its count, then its records
--   bytes_of         the whole sheet: terms, events, activities, lots
use Rattle.std.specs.Prelude.{ℕ, ◌/◌, ◌%◌, List, [], ◌∷◌, ◌++◌, length}
use Rattle.std.specs.List.{flat_map}
use Rattle.sheet.specs.declared.records.Side.{Side}
use Rattle.sheet.specs.declared.records.Side.TheVariants.{Arrival, Departure}
use Rattle.sheet.specs.declared.records.Kind.{Kind}
use Rattle.sheet.specs.declared.records.Kind.TheVariants.{Drive, Stand, Transfer}
use Rattle.sheet.specs.declared.records.Class.{Class}
use Rattle.sheet.specs.declared.records.Class.TheVariants.{Ordinary, Express}
use Rattle.sheet.specs.declared.records.Event.{Event}
use Rattle.sheet.specs.declared.records.Activity.{Activity}
use Rattle.sheet.specs.declared.records.Lot.{Lot}
use Rattle.sheet.specs.Rules.{Tables, stretch}

abbrev pub number_bytes : ℕ → List ℕ
number_bytes n = (n / 256) ∷ (n % 256) ∷ []

abbrev pub side_number : Side → ℕ
side_number Arrival = 0
side_number Departure = 1

abbrev pub kind_number : Kind → ℕ
kind_number Drive = 0
kind_number Stand = 1
kind_number Transfer = 2

abbrev pub class_number : Class → ℕ
class_number Ordinary = 0
class_number Express = 1

abbrev pub event_numbers : Event → List ℕ
event_numbers e = e.truck ∷ e.site ∷ side_number e.side ∷ e.tolerance ∷ []

abbrev pub activity_numbers : Activity → List ℕ
activity_numbers a = kind_number a.kind ∷ a.tail ∷ a.head ∷ a.margin ∷ []

-- four numbers, as an event or an activity has them
abbrev pub four_bytes : ℕ → ℕ → ℕ → ℕ → List ℕ
four_bytes a b c d = number_bytes a ++ (number_bytes b ++ (number_bytes c ++ number_bytes d))

abbrev pub event_bytes : Event → List ℕ
event_bytes e = four_bytes e.truck e.site (side_number e.side) e.tolerance

abbrev pub activity_bytes : Activity → List ℕ
activity_bytes a = four_bytes (kind_number a.kind) a.tail a.head a.margin

-- a lot's three numbers, then its steps
abbrev pub lot_bytes : List ℕ → Lot → List ℕ
lot_bytes steps l = number_bytes (class_number l.class) ++ (number_bytes l.parcels ++ (number_bytes l.count ++ flat_map number_bytes (stretch l steps)))

abbrev pub section_bytes : {A : Type 0} → (A → List ℕ) → List A → List ℕ
section_bytes each xs = number_bytes (length xs) ++ flat_map each xs

abbrev pub bytes_of : Tables → List ℕ
bytes_of t =
    section_bytes number_bytes (t.period ∷ [])
    ++ (section_bytes event_bytes t.events
    ++ (section_bytes activity_bytes t.activities
    ++ section_bytes (lot_bytes t.steps) t.lots))
