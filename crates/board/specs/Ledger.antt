-- The ledger: what is noted of a board, from its calls' arguments alone.
--
--   Ledger         the sheet, the board's number, a delay for each event, a mark for each activity
--   opened         the ledger of a new board: every delay 0 and no mark
--   *-answer       whether a call is refused, tested on the ledger in the order of the numbers
--   Call           a call: of a slip only its two numbers enter
--   step           the ledger after a call: a refused one leaves it, and so does one that changes nothing
--   steps          the ledger after a list of calls
--   ledger_of      the ledger that a board is
--   yard_on        the yard of a ledger under a carry rule
use Rattle.std.specs.Prelude.{ℕ, Bool, true, false, cond, ◌&&◌, List, [], ◌∷◌, length, is_ok, None, Ok, Err, Result, ◌==◌, nat_le, nat_lt}
use Rattle.sheet.specs.Rules.{Tables, activity_at}
use Rattle.sheet.specs.Sheets.{tables_of}
use Rattle.model.specs.declared.mark.Mark.{Mark}
use Rattle.model.specs.declared.mark.Mark.TheVariants.{Unmarked, Held, Struck}
use Rattle.model.specs.Yard.{Yard, is_transfer, is_struck, is_unmarked}
use Rattle.model.specs.Laws.{yard}
use Rattle.timetable.specs.Days.{delay_on, mark_on}
use Rattle.board.specs.declared.refusal.Refusal.{Refusal}
use Rattle.board.specs.declared.refusal.Refusal.TheVariants.{NoSuch, TooLong, NoTransfer, Marked, NotStruck}
use Rattle.board.specs.declared.slip.Slip.{Slip}
use Rattle.board.specs.declared.slip.NotReleased.{NotReleased}
use Rattle.board.specs.declared.board.Board.{Board}

pub record Ledger : Type 0 where
  pub sheet : Tables
  pub number : ℕ
  -- by the number of the event
  pub delay : ℕ → ℕ
  -- by the number of the activity
  pub mark : ℕ → Mark

abbrev pub opened : Tables → ℕ → Ledger
opened t number = record { sheet = t; number = number; delay = λ e. 0; mark = λ a. Unmarked }

abbrev pub with_delay : Ledger → ℕ → ℕ → Ledger
with_delay l event minutes = record { sheet = l.sheet; number = l.number; delay = λ e. cond (e == event) minutes (l.delay e); mark = l.mark }

abbrev pub with_mark : Ledger → ℕ → Mark → Ledger
with_mark l activity mark = record { sheet = l.sheet; number = l.number; delay = l.delay; mark = λ a. cond (a == activity) mark (l.mark a) }

-- ---- what is refused

abbrev pub has_event : Ledger → ℕ → Bool
has_event l e = nat_lt e (length l.sheet.events)

abbrev pub has_activity : Ledger → ℕ → Bool
has_activity l a = nat_lt a (length l.sheet.activities)

abbrev pub transfers : Ledger → ℕ → Bool
transfers l a = is_transfer (activity_at l.sheet.activities a).kind

abbrev pub report_answer : Ledger → ℕ → ℕ → Result (Unit {0}) Refusal
report_answer l e minutes = cond (has_event l e) (cond (nat_le minutes l.sheet.period) (Ok tt) (Err TooLong)) (Err NoSuch)

abbrev pub if_unmarked : {X : Type 0} → X → Mark → Result X Refusal
if_unmarked x Unmarked = Ok x
if_unmarked x Held = Err Marked
if_unmarked x Struck = Err Marked

-- the answer x where the activity is an unmarked transfer
abbrev pub if_free : {X : Type 0} → X → Ledger → ℕ → Result X Refusal
if_free x l a = cond (has_activity l a) (cond (transfers l a) (if_unmarked x (l.mark a)) (Err NoTransfer)) (Err NoSuch)

abbrev pub slip_for : Ledger → ℕ → Slip
slip_for l a = record { board = l.number; activity = a }

abbrev pub hold_answer : Ledger → ℕ → Result Slip Refusal
hold_answer l a = if_free (slip_for l a) l a

abbrev pub strike_answer : Ledger → ℕ → Result (Unit {0}) Refusal
strike_answer l a = if_free tt l a

abbrev pub if_struck : Mark → Result (Unit {0}) Refusal
if_struck Unmarked = Err NotStruck
if_struck Held = Err NotStruck
if_struck Struck = Ok tt

abbrev pub clear_answer : Ledger → ℕ → Result (Unit {0}) Refusal
clear_answer l a = cond (has_activity l a) (cond (transfers l a) (if_struck (l.mark a)) (Err NoTransfer)) (Err NoSuch)

abbrev pub is_held : Mark → Bool
is_held Unmarked = false
is_held Held = true
is_held Struck = false

abbrev pub same_mark : Mark → Mark → Bool
same_mark Unmarked m = is_unmarked m
same_mark Held m = is_held m
same_mark Struck m = is_struck m

-- the activity is a transfer with a mark; else why not, with what is told of another mark
abbrev pub marked_answer : Ledger → ℕ → Mark → Refusal → Result (Unit {0}) Refusal
marked_answer l a mark otherwise = cond (has_activity l a) (cond (transfers l a) (cond (same_mark mark (l.mark a)) (Ok tt) (Err otherwise)) (Err NoTransfer)) (Err NoSuch)

-- the slip is this board's, and its transfer is held
abbrev pub holds : Ledger → ℕ → ℕ → Bool
holds l board activity = board == l.number && (has_activity l activity && is_held (l.mark activity))

abbrev pub release_answer : Ledger → Slip → Result (Unit {0}) NotReleased
release_answer l slip = cond (holds l slip.board slip.activity) (Ok tt) (Err (record { slip = slip }))

-- ---- what changes

pub data Call : Type 0 where
  report : ℕ → ℕ → Call
  hold : ℕ → Call
  release : ℕ → ℕ → Call
  strike : ℕ → Call
  clear : ℕ → Call
  trial : ℕ → Call
  plan : Call
  reserve : Call

abbrev pub step : Ledger → Call → Ledger
step l (report e minutes) = cond (is_ok (report_answer l e minutes)) (with_delay l e minutes) l
step l (hold a) = cond (is_ok (hold_answer l a)) (with_mark l a Held) l
step l (release board a) = cond (holds l board a) (with_mark l a Unmarked) l
step l (strike a) = cond (is_ok (strike_answer l a)) (with_mark l a Struck) l
step l (clear a) = cond (is_ok (clear_answer l a)) (with_mark l a Unmarked) l
step l (trial a) = l
step l plan = l
step l reserve = l

unfoldable pub steps : Ledger → List Call → Ledger
steps l [] = l
steps l (c ∷ calls) = steps (step l c) calls

-- ---- boards and yards

abbrev pub ledger_of : Board → Ledger
ledger_of b = record { sheet = tables_of b.sheet; number = b.number; delay = delay_on b.delays; mark = mark_on b.marks None }

abbrev pub yard_on : (ℕ → ℕ → ℕ) → Ledger → Yard
yard_on rule l = yard l.sheet rule l.delay l.mark
