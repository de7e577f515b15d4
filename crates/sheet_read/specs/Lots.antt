-- The lots of a sheet, each with its steps.
--
--   steps_from    the steps of a lot, one after another
--   room_for      whether the step total stays in bounds and in the caller's step table
--   lot_of        a lot with its steps, and the bytes after it; or its fault, with the steps that were read before it
--   lots_of       all lots, until the end or the first fault
use Rattle.std.specs.Prelude.{ℕ, ◌+◌, cond, List, [], ◌++◌, map, length, Some, None, Ok, Err, Option, Result, nat_lt}
use Rattle.std.specs.List.{flat_map}
use Rattle.sheet.specs.declared.records.Activity.{Activity}
use Rattle.sheet.specs.declared.records.Lot.{Lot}
use Rattle.sheet.specs.Rules.{come_to}
use Rattle.sheet_read.specs.declared.fault.Section.TheVariants.{Lots}
use Rattle.sheet_read.specs.declared.fault.Spot.{Spot}
use Rattle.sheet_read.specs.declared.fault.RecordFault.{RecordFault}
use Rattle.sheet_read.specs.declared.fault.SheetFault.{SheetFault}
use Rattle.sheet_read.specs.declared.fault.SheetFault.TheVariants.{Record, Bounds, Table}
use Rattle.sheet_read.specs.declared.«record».LotHead.{LotHead}
use Rattle.sheet_read.specs.Records.{head_of, step_of}
use Rattle.sheet_read.specs.Numbers.{run}
use Rattle.sheet_read.specs.Sections.{spot_at}

-- a step of lot number `lot`, told where it begins, and where the way has come to after it
abbrev pub lot_step : List Activity → ℕ → ℕ → Option ℕ → List ℕ → Result (ℕ × List ℕ) RecordFault
lot_step activities lot total from bs = step_of activities from (spot_at Lots lot total bs) bs

abbrev pub step_on : List Activity → Option ℕ → ℕ → Option ℕ
step_on activities from step = come_to activities step

abbrev pub steps_from : List Activity → ℕ → ℕ → ℕ → List ℕ → List ℕ × Result (List ℕ) RecordFault
steps_from activities lot total = run (lot_step activities lot total) (step_on activities) None

-- `used` steps are there already, and `count` are to come: at most 4,096 in all, and no more than the table has cells
abbrev pub room_for : Spot → ℕ → ℕ → ℕ → Option SheetFault
room_for at cells used count = cond (nat_lt 4096 (used + count)) (Some (Bounds at)) (cond (nat_lt cells (used + count)) (Some (Table at)) None)

-- what is read of one lot: the lot, its steps and the bytes after it; or the steps before the fault, and the fault
abbrev pub LotRead : Type 0
LotRead = Result ((Lot × List ℕ) × List ℕ) (List ℕ × SheetFault)

abbrev pub lot_made : ℕ → LotHead → Lot
lot_made used h = record { class = h.class; parcels = h.parcels; first = used; count = h.count }

abbrev pub lot_with : ℕ → LotHead → List ℕ × Result (List ℕ) RecordFault → LotRead
lot_with used h (steps, Ok rest) = Ok ((lot_made used h, steps), rest)
lot_with used h (steps, Err f) = Err (steps, Record f)

abbrev pub lot_in : List Activity → ℕ → ℕ → ℕ → LotHead × List ℕ → Option SheetFault → LotRead
lot_in activities total lot used h (Some f) = Err ([], f)
lot_in activities total lot used h None = lot_with used h.0 (steps_from activities lot total h.0.count h.1)

abbrev pub lot_after : List Activity → ℕ → ℕ → ℕ → ℕ → Spot → Result (LotHead × List ℕ) RecordFault → LotRead
lot_after activities total cells lot used at (Err f) = Err ([], Record f)
lot_after activities total cells lot used at (Ok h) = lot_in activities total lot used h (room_for at cells used h.0.count)

-- lot number `lot`, after `used` steps of earlier lots
abbrev pub lot_of : List Activity → ℕ → ℕ → ℕ × ℕ → List ℕ → LotRead
lot_of activities total cells s bs = lot_after activities total cells s.0 s.1 (spot_at Lots s.0 total bs) (head_of (spot_at Lots s.0 total bs) bs)

-- the lot without its steps, and the steps alone
abbrev pub lot_alone : LotRead → Result (Lot × List ℕ) SheetFault
lot_alone (Ok p) = Ok (p.0.0, p.1)
lot_alone (Err f) = Err f.1

abbrev pub lot_steps : LotRead → List ℕ
lot_steps (Ok p) = p.0.1
lot_steps (Err f) = f.0

-- the lots are numbered, and their steps counted
abbrev pub next_lot : ℕ × ℕ → Lot × List ℕ → ℕ × ℕ
next_lot s l = (s.0 + 1, s.1 + l.0.count)

abbrev pub lots_of : List Activity → ℕ → ℕ → ℕ → List ℕ → List (Lot × List ℕ) × Result (List ℕ) (List ℕ × SheetFault)
lots_of activities total cells = run (lot_of activities total cells) next_lot (0, 0)

abbrev pub lot_only : Lot × List ℕ → Lot
lot_only l = l.0

abbrev pub steps_only : Lot × List ℕ → List ℕ
steps_only l = l.1

-- the steps of a lot that was not read to its end
abbrev pub broken_off : Result (List ℕ) (List ℕ × SheetFault) → List ℕ
broken_off (Ok rest) = []
broken_off (Err f) = f.0

-- what the lot table and the step table get
abbrev pub lots_read : List (Lot × List ℕ) × Result (List ℕ) (List ℕ × SheetFault) → List Lot
lots_read r = map lot_only r.0

abbrev pub steps_read : List (Lot × List ℕ) × Result (List ℕ) (List ℕ × SheetFault) → List ℕ
steps_read r = flat_map steps_only r.0 ++ broken_off r.1

-- how many steps the lots have, with the bytes after them, or the fault
abbrev pub lots_answer : List (Lot × List ℕ) × Result (List ℕ) (List ℕ × SheetFault) → Result (ℕ × List ℕ) SheetFault
lots_answer (ls, Ok rest) = Ok (length (flat_map steps_only ls), rest)
lots_answer (ls, Err f) = Err f.1
