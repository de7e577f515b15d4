-- A yard: a sheet on a day, with what is noted of it.
--
--   Yard          the sheet, the carry rule's meaning, the noted delay of each event, the mark of each activity
--   event_count, activity_count    how many of each there are
--   tail, head    the events that an activity leads from and to
--   handed        what an activity hands on of the lateness at its tail
--   noted         an event's noted delay
--   transfer      an activity that is a transfer; struck, held and unmarked: one so marked
use Rattle.std.specs.Prelude.{ℕ, Bool, true, false, cond, ◌&&◌, length, nat_lt}
use Rattle.sheet.specs.declared.records.Kind.{Kind}
use Rattle.sheet.specs.declared.records.Kind.TheVariants.{Drive, Stand, Transfer}
use Rattle.sheet.specs.Rules.{Tables, activity_at}
use Rattle.model.specs.declared.mark.Mark.{Mark}
use Rattle.model.specs.declared.mark.Mark.TheVariants.{Unmarked, Held, Struck}

pub record Yard : Type 0 where
  pub sheet : Tables
  -- the rule: from a margin and a lateness to the lateness handed on
  pub rule : ℕ → ℕ → ℕ
  -- by the number of the event
  pub delay : ℕ → ℕ
  -- by the number of the activity
  pub mark : ℕ → Mark

unfoldable pub event_count : Yard → ℕ
event_count g = length g.sheet.events

unfoldable pub activity_count : Yard → ℕ
activity_count g = length g.sheet.activities

unfoldable pub tail : Yard → ℕ → ℕ
tail g a = (activity_at g.sheet.activities a).tail

unfoldable pub head : Yard → ℕ → ℕ
head g a = (activity_at g.sheet.activities a).head

unfoldable pub handed : Yard → ℕ → ℕ → ℕ
handed g a lateness = g.rule (activity_at g.sheet.activities a).margin lateness

-- there is nothing to note of an event that the sheet does not have
unfoldable pub noted : Yard → ℕ → ℕ
noted g e = cond (nat_lt e (event_count g)) (g.delay e) 0

abbrev pub is_transfer : Kind → Bool
is_transfer Drive = false
is_transfer Stand = false
is_transfer Transfer = true

abbrev pub is_struck : Mark → Bool
is_struck Unmarked = false
is_struck Held = false
is_struck Struck = true

abbrev pub is_unmarked : Mark → Bool
is_unmarked Unmarked = true
is_unmarked Held = false
is_unmarked Struck = false

unfoldable pub transfer : Yard → ℕ → Bool
transfer g a = is_transfer (activity_at g.sheet.activities a).kind

unfoldable pub struck : Yard → ℕ → Bool
struck g a = transfer g a && is_struck (g.mark a)

unfoldable pub unmarked : Yard → ℕ → Bool
unmarked g a = transfer g a && is_unmarked (g.mark a)
