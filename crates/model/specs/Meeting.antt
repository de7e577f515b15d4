-- Where delays meet.
--
--   live       an activity that is no struck transfer and hands on more than 0 in the worst timetable
--   sources    an event's live incoming activities, plus one if its noted delay is above 0
--   meets      delays meet at an event: it has two sources or more
--   Apart      they meet nowhere: an event has one live incoming activity at most, and then no delay of its own
use Rattle.std.specs.Prelude.{◌≡◌, ℕ, ◌+◌, ◌<◌, Bool, true, false, cond, ◌&&◌, ◌==◌, nat_le, nat_lt}
use Rattle.model.specs.Yard.{Yard, activity_count, tail, head, handed, noted, struck}
use Rattle.model.specs.Finite.{count}
use Rattle.model.specs.Lateness.{worst}

abbrev pub live : Yard → ℕ → Bool
live g a = cond (struck g a) false (nat_lt 0 (handed g a (worst g (tail g a))))

-- a live activity into an event
abbrev pub into : Yard → ℕ → ℕ → Bool
into g e a = live g a && head g a == e

unfoldable pub sources : Yard → ℕ → ℕ
sources g e = count (activity_count g) (into g e) + cond (nat_lt 0 (noted g e)) 1 0

abbrev pub meets : Yard → ℕ → Bool
meets g e = nat_le 2 (sources g e)

pub record Apart (g : Yard) : Type 0 where
  pub one : (a b : ℕ) → a < activity_count g → b < activity_count g → live g a ≡ true → live g b ≡ true → head g a ≡ head g b → a ≡ b
  pub fresh : (a : ℕ) → a < activity_count g → live g a ≡ true → noted g (head g a) ≡ 0
