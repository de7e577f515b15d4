-- The lines of a listing, as bytes.
--
--   period_line, event_line, activity_line, lot_line    the line of a record, without the line's end
--   steps_words                         a lot's steps, a blank before each
use Rattle.std.specs.Prelude.{ℕ, List, ◌++◌, codes, decimal}
use Rattle.sheet.specs.declared.records.Class.{Class}
use Rattle.sheet.specs.declared.records.Event.{Event}
use Rattle.sheet.specs.declared.records.Activity.{Activity}
use Rattle.sheet.specs.Sorts.{side_word, kind_word, class_word}
use Rattle.words.specs.Rows.{numbers_row}

-- period 60
abbrev pub period_line : ℕ → List ℕ
period_line period = codes "period " ++ decimal period

-- event 1 10 arrival 60: the truck, the site, the side and the tolerance
abbrev pub event_line : Event → List ℕ
event_line e =
    codes "event " ++ (decimal e.truck ++ (codes " " ++ (decimal e.site ++ (codes " " ++ (side_word e.side ++ (codes " " ++ decimal e.tolerance))))))

-- stand 0 1 2: the kind, the tail, the head and the margin
abbrev pub activity_line : Activity → List ℕ
activity_line a =
    kind_word a.kind ++ (codes " " ++ (decimal a.tail ++ (codes " " ++ (decimal a.head ++ (codes " " ++ decimal a.margin)))))

abbrev pub steps_words : List ℕ → List ℕ
steps_words steps = numbers_row steps

-- lot ordinary 20 0 2: the class, the parcels and the steps
abbrev pub lot_line : Class → ℕ → List ℕ → List ℕ
lot_line class parcels steps = codes "lot " ++ (class_word class ++ (codes " " ++ (decimal parcels ++ steps_words steps)))
