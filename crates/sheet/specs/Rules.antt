-- The rules of a sheet.
--
--   Tables         a period and the four tables, as plain lists
--   event_at       the event of a number; activity_at and lot_at likewise
--   stretch        a lot's own part of the step table; Within, that it lies there
--   event_keeps, activity_keeps, lot_keeps    one record keeps its rule
--   path_keeps     a lot's steps lead on, one from where the last one ended
--   lots_keep      all lots keep theirs, and their stretches fill the step table one after another
--   well_formed    all of it together: what every sheet is
use Rattle.std.specs.Prelude.{ℕ, ◌+◌, ◌≤◌, Bool, true, false, not, ◌&&◌, List, [], ◌∷◌, length, take, drop, Some, None, Option, ◌==◌, nat_le, nat_lt, slice_index_or}
use Rattle.sheet.specs.declared.records.Side.{Side}
use Rattle.sheet.specs.declared.records.Side.TheVariants.{Arrival, Departure}
use Rattle.sheet.specs.declared.records.Kind.{Kind}
use Rattle.sheet.specs.declared.records.Kind.TheVariants.{Drive, Stand, Transfer}
use Rattle.sheet.specs.declared.records.Event.{Event}
use Rattle.sheet.specs.declared.records.Activity.{Activity}
use Rattle.sheet.specs.declared.records.Class.TheVariants.{Ordinary}
use Rattle.sheet.specs.declared.records.Lot.{Lot}

-- the period and the four tables of a sheet
pub record Tables : Type 0 where
  pub period : ℕ
  pub events : List Event
  pub activities : List Activity
  pub lots : List Lot
  pub steps : List ℕ

abbrev pub tables : ℕ → List Event → List Activity → List Lot → List ℕ → Tables
tables period events activities lots steps = record { period = period; events = events; activities = activities; lots = lots; steps = steps }

-- what stands past the end of a table
abbrev pub no_event : Event
no_event = record { truck = 0; site = 0; side = Arrival; tolerance = 0 }

abbrev pub no_activity : Activity
no_activity = record { kind = Drive; tail = 0; head = 0; margin = 0 }

abbrev pub event_at : List Event → ℕ → Event
event_at events i = slice_index_or events i no_event

abbrev pub activity_at : List Activity → ℕ → Activity
activity_at activities i = slice_index_or activities i no_activity

abbrev pub no_lot : Lot
no_lot = record { class = Ordinary; parcels = 0; first = 0; count = 0 }

abbrev pub lot_at : List Lot → ℕ → Lot
lot_at lots i = slice_index_or lots i no_lot

-- a lot's stretch of the step table
abbrev pub stretch : Lot → List ℕ → List ℕ
stretch l steps = take l.count (drop l.first steps)

-- the stretch lies within the step table
abbrev pub Within : List ℕ → Lot → Type 0
Within steps l = l.first + l.count ≤ length steps

-- every one of a table's records passes a test
abbrev pub every : {A : Type 0} → (A → Bool) → List A → Bool
every test [] = true
every test (x ∷ xs) = test x && every test xs

-- low, low + 1, .. or high
abbrev pub between : ℕ → ℕ → ℕ → Bool
between low high n = nat_le low n && nat_le n high

-- the period is 1 to 1,440 minutes
abbrev pub period_keeps : ℕ → Bool
period_keeps period = between 1 1440 period

-- an event's tolerance is at most the period
abbrev pub event_keeps : ℕ → Event → Bool
event_keeps period e = nat_le e.tolerance period

abbrev pub arrives : Side → Bool
arrives Arrival = true
arrives Departure = false

abbrev pub departs : Side → Bool
departs s = not (arrives s)

-- the two ends of an activity: a drive leads from a truck's departure to its arrival at another site, a stand from its
-- arrival to its departure at one site, a transfer from an arrival to another truck's departure there
abbrev pub ends_fit : Kind → Event → Event → Bool
ends_fit Drive tail head = departs tail.side && (arrives head.side && (tail.truck == head.truck && not (tail.site == head.site)))
ends_fit Stand tail head = arrives tail.side && (departs head.side && (tail.truck == head.truck && tail.site == head.site))
ends_fit Transfer tail head = arrives tail.side && (departs head.side && (not (tail.truck == head.truck) && tail.site == head.site))

-- an activity leads from a lower to a higher event of the sheet, its margin is at most 1,440, and its ends fit its kind
abbrev pub activity_keeps : List Event → Activity → Bool
activity_keeps events a =
    nat_lt a.tail a.head
    && (nat_lt a.head (length events)
    && (nat_le a.margin 1440
    && ends_fit a.kind (event_at events a.tail) (event_at events a.head)))

-- a lot has 1 to 65,535 parcels and 1 to 32 steps
abbrev pub lot_keeps : ℕ → ℕ → Bool
lot_keeps parcels count = between 1 65535 parcels && between 1 32 count

-- a way that has come to some event, or has not begun, may go on from `tail`
abbrev pub leads_on : Option ℕ → ℕ → Bool
leads_on None tail = true
leads_on (Some here) tail = tail == here

-- a step is an activity of the sheet that leaves where the way has come to
abbrev pub step_keeps : List Activity → Option ℕ → ℕ → Bool
step_keeps activities from step = nat_lt step (length activities) && leads_on from (activity_at activities step).tail

-- where the way has come to after a step
abbrev pub come_to : List Activity → ℕ → Option ℕ
come_to activities step = Some (activity_at activities step).head

abbrev pub path_keeps : List Activity → Option ℕ → List ℕ → Bool
path_keeps activities from [] = true
path_keeps activities from (s ∷ ss) = step_keeps activities from s && path_keeps activities (come_to activities s) ss

-- the lots keep their rules, and from step `first` on their stretches fill the step table, in their order and with no gap
abbrev pub lots_keep : List Activity → ℕ → List Lot → List ℕ → Bool
lots_keep activities first [] steps = length steps == 0
lots_keep activities first (l ∷ ls) steps =
    lot_keeps l.parcels l.count
    && (l.first == first
    && (nat_le l.count (length steps)
    && (path_keeps activities None (take l.count steps)
    && lots_keep activities (first + l.count) ls (drop l.count steps))))

-- how much of each a sheet has: 1 to 512 events, at most 1,024 activities, 512 lots and 4,096 steps
abbrev pub sizes_keep : Tables → Bool
sizes_keep t =
    between 1 512 (length t.events)
    && (nat_le (length t.activities) 1024
    && (nat_le (length t.lots) 512
    && nat_le (length t.steps) 4096))

-- what every sheet is
abbrev pub well_formed : Tables → Bool
well_formed t =
    period_keeps t.period
    && (sizes_keep t
    && (every (event_keeps t.period) t.events
    && (every (activity_keeps t.events) t.activities
    && lots_keep t.activities 0 t.lots t.steps)))
