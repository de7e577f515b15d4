-- What writing a sheet answers.
--
--   written_of      how many bytes were written, or that the buffer is too short
--   write_number    the number of the refusal
--   ReadsBack       bytes that are read as a sheet again
use Rattle.std.specs.Prelude.{◌≡◌, ℕ, ◌≤◌, cond, List, length, Ok, Err, Result, nat_lt}
use Rattle.sheet.specs.Rules.{Tables}
use Rattle.sheet.specs.Bytes.{bytes_of}
use Rattle.sheet_read.specs.Sheets.{Room, Reading, extent, reading_of}
use Rattle.sheet_write.specs.declared.write.WriteFault.{WriteFault}
use Rattle.sheet_write.specs.declared.write.WriteFault.TheVariants.{Short}

abbrev pub write_number : WriteFault → ℕ
write_number (Short needed) = 8

-- in a buffer of `room` bytes
abbrev pub written_of : Tables → ℕ → Result ℕ WriteFault
written_of t room = cond (nat_lt room (length (bytes_of t))) (Err (Short (length (bytes_of t)))) (Ok (length (bytes_of t)))

-- tables with room for a sheet's records and steps
abbrev pub HasRoom : Room → Tables → Type 0
HasRoom room t = ((length t.events ≤ room.events) × (length t.activities ≤ room.activities)) × ((length t.lots ≤ room.lots) × (length t.steps ≤ room.steps))

-- the reading that gives just these tables
abbrev pub whole_reading : Tables → Reading
whole_reading t = record {
  events = t.events;
  activities = t.activities;
  lots = t.lots;
  steps = t.steps;
  answer = Ok (extent t.period (length t.events) (length t.activities) (length t.lots, length t.steps));
}

-- bytes that are read as these tables, whatever tables of enough room they are read into
abbrev pub ReadsBack : Tables → List ℕ → Type 0
ReadsBack t bs = (room : Room) → HasRoom room t → reading_of room bs ≡ whole_reading t
