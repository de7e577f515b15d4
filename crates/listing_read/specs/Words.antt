-- What the words of a listing's lines say.
--
--   same         two words are the same
--   number_of    the number of a word: a decimal of at most 65,535, as words has it
--   side_of, class_of    the side or the class that a word names
--   word_at      the bytes of one of a line's words
--   period_of, event_of, activity_of    what the words after a line's first word say
use Rattle.std.specs.Prelude.{ℕ, Bool, cond, List, [], map, length, Some, None, Option, ◌==◌, slice_index_or}
use Rattle.std.specs.Borrow.{Bor}
use Rattle.std.specs.Str.{bytes_eq}
use Rattle.sheet.specs.declared.records.Kind.{Kind}
use Rattle.sheet.specs.declared.records.Event.{Event}
use Rattle.sheet.specs.declared.records.Activity.{Activity}
use Rattle.sheet.specs.declared.records.Side.{Side}
use Rattle.sheet.specs.declared.records.Class.{Class}
use Rattle.sheet.specs.Sorts.{side_called, class_called}
pub use Rattle.words.specs.Numbers.{number_of}

-- two words are the same
abbrev pub same : List ℕ → List ℕ → Bool
same = bytes_eq

abbrev pub side_of : List ℕ → Option Side
side_of word = side_called word

abbrev pub class_of : List ℕ → Option Class
class_of word = class_called word

abbrev pub word_at : List (Bor (List ℕ)) → ℕ → List ℕ
word_at words i = slice_index_or (map (λ x. x.now) words) i []

-- what follows from an answer, if there is one
abbrev pub with : {A B : Type 0} → Option A → (A → Option B) → Option B
with None f = None
with (Some x) f = f x

-- one word: the period
abbrev pub period_of : List (Bor (List ℕ)) → Option ℕ
period_of words = cond (length words == 1) (number_of (word_at words 0)) None

abbrev pub event_by : Option ℕ → Option ℕ → Option Side → Option ℕ → Option Event
event_by a b c d = with a (λ truck. with b (λ site. with c (λ side. with d (λ tolerance. Some (record { truck = truck; site = site; side = side; tolerance = tolerance })))))

-- four words: the truck, the site, the side and the tolerance
abbrev pub event_of : List (Bor (List ℕ)) → Option Event
event_of words =
    cond (length words == 4) (event_by (number_of (word_at words 0)) (number_of (word_at words 1)) (side_of (word_at words 2)) (number_of (word_at words 3))) None

abbrev pub activity_by : Kind → Option ℕ → Option ℕ → Option ℕ → Option Activity
activity_by kind a b c = with a (λ tail. with b (λ head. with c (λ margin. Some (record { kind = kind; tail = tail; head = head; margin = margin }))))

-- three words after the kind: the tail, the head and the margin
abbrev pub activity_of : Kind → List (Bor (List ℕ)) → Option Activity
activity_of kind words =
    cond (length words == 3) (activity_by kind (number_of (word_at words 0)) (number_of (word_at words 1)) (number_of (word_at words 2))) None
