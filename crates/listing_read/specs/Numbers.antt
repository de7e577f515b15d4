-- A draft's numbers and their bytes.
--
--   lot_numbers      the numbers of a lot with its steps
--   numbers_bytes    numbers as bytes, each number's high byte first
--   part_bytes       a section of a draft: its count, then its numbers
--   draft_bytes      the four sections, one after another
--   Added            one more record in a section
--   Empty            a section with no record
use Rattle.std.specs.Prelude.{◌≡◌, ℕ, ◌+◌, List, [], ◌∷◌, ◌++◌, length, vec_items}
use Rattle.std.specs.List.{flat_map}
use Rattle.sheet.specs.declared.records.Class.{Class}
use Rattle.sheet.specs.Bytes.{number_bytes, class_number}
use Rattle.listing_read.specs.declared.draft.Section.{Section}
use Rattle.listing_read.specs.declared.draft.Draft.{Draft}

-- a lot's class, parcels and step count, then its steps
abbrev pub lot_numbers : Class → ℕ → List ℕ → List ℕ
lot_numbers class parcels steps = class_number class ∷ parcels ∷ length steps ∷ steps

abbrev pub numbers_bytes : List ℕ → List ℕ
numbers_bytes ns = flat_map number_bytes ns

abbrev pub numbers_of : Section → List ℕ
numbers_of s = vec_items s.numbers

abbrev pub part_bytes : Section → List ℕ
part_bytes s = number_bytes s.count ++ numbers_bytes (numbers_of s)

abbrev pub draft_bytes : Draft → List ℕ
draft_bytes d = part_bytes d.terms ++ (part_bytes d.events ++ (part_bytes d.activities ++ part_bytes d.lots))

-- a section has one more record, of these numbers
pub record Added (before : Section) (numbers : List ℕ) (after : Section) : Type 0 where
  pub one : after.count ≡ before.count + 1
  pub more : numbers_of after ≡ numbers_of before ++ numbers

pub record Empty (s : Section) : Type 0 where
  pub none : s.count ≡ 0
  pub bare : numbers_of s ≡ []
