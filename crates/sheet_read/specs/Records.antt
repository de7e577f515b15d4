-- The records of a sheet, each from its bytes.
--
--   period_from, event_from, activity_from, head_from, step_from    what some numbers make, if they keep the record's rule
--   record_of                                                       what is read at the front of some bytes, with the bytes after it, or
--                                                                   the fault: first the numbers are read, then the rule is tested
--   period_of, event_of, activity_of, head_of, step_of              the same of each record, by the count of its numbers
use Rattle.std.specs.Prelude.{ℕ, Bool, cond, List, Some, None, Ok, Err, Option, Result, slice_index}
use Rattle.std.specs.Option.{ok_or}
use Rattle.sheet.specs.declared.records.Side.{Side}
use Rattle.sheet.specs.declared.records.Kind.{Kind}
use Rattle.sheet.specs.declared.records.Class.{Class}
use Rattle.sheet.specs.declared.records.Event.{Event}
use Rattle.sheet.specs.declared.records.Activity.{Activity}
use Rattle.sheet.specs.Rules.{period_keeps, event_keeps, activity_keeps, lot_keeps, step_keeps}
use Rattle.sheet.specs.Sorts.{side_of, kind_of, class_of}
use Rattle.sheet_read.specs.declared.fault.Spot.{Spot}
use Rattle.sheet_read.specs.declared.fault.ReaderFault.{ReaderFault}
use Rattle.sheet_read.specs.declared.fault.RecordFault.{RecordFault}
use Rattle.sheet_read.specs.declared.fault.RecordFault.TheVariants.{Reader, Rule}
use Rattle.sheet_read.specs.declared.«record».LotHead.{LotHead}
use Rattle.sheet_read.specs.Numbers.{then, numbers_of}

-- the byte reader's fault, carried whole in the record's
abbrev pub in_record : {A : Type 0} → Result A ReaderFault → Result A RecordFault
in_record (Ok x) = Ok x
in_record (Err e) = Err (Reader e)

-- what passes a test, if it does
abbrev pub passed : {A : Type 0} → Bool → A → Option A
passed test x = cond test (Some x) None

-- a record that breaks its rule is a fault where it begins
abbrev pub ruled : {A : Type 0} → Spot → Option A → Result A RecordFault
ruled at found = ok_or found (Rule at)

-- a record of `n` numbers
abbrev pub record_of : {A : Type 0} → (List ℕ → Option A) → ℕ → Spot → List ℕ → Result (A × List ℕ) RecordFault
record_of make n at bs = then (in_record (numbers_of n at bs)) (λ p. then (ruled at (make p.0)) (λ x. Ok (x, p.1)))

abbrev pub period_from : List ℕ → Option ℕ
period_from ns = passed (period_keeps (slice_index ns 0)) (slice_index ns 0)

abbrev pub period_of : Spot → List ℕ → Result (ℕ × List ℕ) RecordFault
period_of = record_of period_from 1

-- a side that is none of the two breaks the event's rule too
abbrev pub event_with : ℕ → List ℕ → Option Side → Option Event
event_with period ns None = None
event_with period ns (Some side) =
    passed (event_keeps period (record { truck = slice_index ns 0; site = slice_index ns 1; side = side; tolerance = slice_index ns 3 }))
    (record { truck = slice_index ns 0; site = slice_index ns 1; side = side; tolerance = slice_index ns 3 })

abbrev pub event_from : ℕ → List ℕ → Option Event
event_from period ns = event_with period ns (side_of (slice_index ns 2))

abbrev pub event_of : ℕ → Spot → List ℕ → Result (Event × List ℕ) RecordFault
event_of period = record_of (event_from period) 4

abbrev pub activity_with : List Event → List ℕ → Option Kind → Option Activity
activity_with events ns None = None
activity_with events ns (Some kind) =
    passed (activity_keeps events (record { kind = kind; tail = slice_index ns 1; head = slice_index ns 2; margin = slice_index ns 3 }))
    (record { kind = kind; tail = slice_index ns 1; head = slice_index ns 2; margin = slice_index ns 3 })

abbrev pub activity_from : List Event → List ℕ → Option Activity
activity_from events ns = activity_with events ns (kind_of (slice_index ns 0))

abbrev pub activity_of : List Event → Spot → List ℕ → Result (Activity × List ℕ) RecordFault
activity_of events = record_of (activity_from events) 4

abbrev pub head_with : List ℕ → Option Class → Option LotHead
head_with ns None = None
head_with ns (Some class) = passed (lot_keeps (slice_index ns 1) (slice_index ns 2)) (record { class = class; parcels = slice_index ns 1; count = slice_index ns 2 })

abbrev pub head_from : List ℕ → Option LotHead
head_from ns = head_with ns (class_of (slice_index ns 0))

-- a lot's three numbers
abbrev pub head_of : Spot → List ℕ → Result (LotHead × List ℕ) RecordFault
head_of = record_of head_from 3

-- a step of a lot that has come to `from`
abbrev pub step_from : List Activity → Option ℕ → List ℕ → Option ℕ
step_from activities from ns = passed (step_keeps activities from (slice_index ns 0)) (slice_index ns 0)

abbrev pub step_of : List Activity → Option ℕ → Spot → List ℕ → Result (ℕ × List ℕ) RecordFault
step_of activities from = record_of (step_from activities from) 1
