-- Lateness that is lawful, and the least of it.
--
--   binds      an activity that hands lateness on under a choice: a drive, a stand, a transfer that waits
--   Lawful     each event at least as late as its noted delay, and as what every binding activity hands on to it
--   Least      lawful, and at no event later than any lawful lateness
--   least      the least lawful lateness, event by event
--   worst      the worst timetable: the least lawful lateness when every unstruck transfer waits
use Rattle.std.specs.Prelude.{◌≡◌, ℕ, suc, ◌<◌, ◌≤◌, max, Bool, true, false, cond, ◌==◌}
use Rattle.model.specs.Yard.{Yard, event_count, activity_count, tail, head, handed, noted, struck, unmarked}
use Rattle.model.specs.Finite.{top, turns}

-- a choice says of each unmarked transfer whether it waits. A struck transfer goes and a held one waits, whatever it says
abbrev pub Choice : Type 0
Choice = ℕ → Bool

abbrev pub binds : Yard → Choice → ℕ → Bool
binds g z a = cond (struck g a) false (cond (unmarked g a) (z a) true)

pub record Lawful (g : Yard) (z : Choice) (y : ℕ → ℕ) : Type 0 where
  pub own : (e : ℕ) → e < event_count g → noted g e ≤ y e
  pub next : (a : ℕ) → a < activity_count g → binds g z a ≡ true → handed g a (y (tail g a)) ≤ y (head g a)

pub record Least (g : Yard) (z : Choice) (y : ℕ → ℕ) : Type 0 where
  pub lawful : Lawful g z y
  pub no_later : (x : ℕ → ℕ) → Lawful g z x → (e : ℕ) → e < event_count g → y e ≤ x e

-- what activity a hands on to event e, where lateness is y
abbrev pub brings : Yard → Choice → (ℕ → ℕ) → ℕ → ℕ → ℕ
brings g z y e a = cond (head g a == e) (cond (binds g z a) (handed g a (y (tail g a))) 0) 0

-- an event's least lateness, from that of the events before it
abbrev pub least_step : Yard → Choice → (ℕ → ℕ) → ℕ → ℕ
least_step g z y e = max (noted g e) (top (activity_count g) (brings g z y e))

unfoldable pub least : Yard → Choice → ℕ → ℕ
least g z e = turns 0 (least_step g z) (suc e) e

abbrev pub all_wait : Choice
all_wait a = true

unfoldable pub worst : Yard → ℕ → ℕ
worst g = least g all_wait
