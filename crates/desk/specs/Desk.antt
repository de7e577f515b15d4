-- What the desk answers.
--
--   Shown             a text is the listing of the sheet whose bytes these are
--   Packed            bytes are those of a sheet
--   Blames            what the desk says of a sheet that is not read
--   BlamesNoReport    what the desk says where no reports are given
use Rattle.std.specs.Prelude.{◌≡◌, ℕ, true, List, Err, Result}
use Rattle.sheet.specs.Rules.{Tables, well_formed}
use Rattle.sheet.specs.Bytes.{bytes_of}
use Rattle.sheet_read.specs.declared.fault.SheetFault.{SheetFault}
use Rattle.sheet_read.specs.declared.read.Extent.{Extent}
use Rattle.listing.specs.Listing.{listing_of}
use Rattle.desk.specs.declared.fault.DeskFault.{DeskFault}
use Rattle.desk.specs.declared.fault.DeskFault.TheVariants.{Refused, Line, Unseen, Memory}

pub record Shown (bytes text : List ℕ) : Type 0 where
  pub sheet : Tables
  pub kept : well_formed sheet ≡ true
  pub read : bytes_of sheet ≡ bytes
  pub listed : text ≡ listing_of sheet

pub record Packed (bytes : List ℕ) : Type 0 where
  pub sheet : Tables
  pub kept : well_formed sheet ≡ true
  pub written : bytes_of sheet ≡ bytes

-- a refusal is the reader's own; memory may always fail
abbrev pub Blames : Result Extent SheetFault → DeskFault → Type 0
Blames answer (Refused f) = answer ≡ Err f
Blames answer (Line text) = ⊥
Blames answer (Unseen f) = ⊥
Blames answer Memory = Unit {0}

abbrev pub BlamesNoReport : DeskFault → Type 0
BlamesNoReport (Refused f) = Unit {0}
BlamesNoReport (Line text) = Unit {0}
BlamesNoReport (Unseen f) = ⊥
BlamesNoReport Memory = Unit {0}
