-- Lots of a day, and their steps, handed on as a part of the step table.
--
--   LotOf        a lot of the day
--   Walks        steps to go along: one at least, and each an activity of the day's sheet
--   knotted      steps that are a tangle; a lot is tangled where its steps are
--   lots_on      the yard as far as the lots' ways are concerned, which no rule enters
--   waits_by     the choice that a table of bytes says: 0 for an activity that waits
--   missed_by    a step goes by such a table
use Rattle.std.specs.Prelude.{◌≡◌, ℕ, ◌<◌, ◌≤◌, Bool, false, not, ◌&&◌, refl, List, length, ◌==◌, nat_lt, slice_index}
use Rattle.sheet.specs.declared.records.Lot.{Lot}
use Rattle.sheet.specs.Rules.{lot_at, stretch}
use Rattle.model.specs.Yard.{Yard}
use Rattle.model.specs.Finite.{some}
use Rattle.model.specs.Lateness.{Choice, worst}
use Rattle.model.specs.Meeting.{live}
use Rattle.model.specs.Lots.{path, end, finish, whole, unstruck}
use Rattle.model.specs.Tangles.{hot, scan, tangled}
use Rattle.timetable.specs.declared.day.Day.{Day}
use Rattle.timetable.specs.Days.{yard_of}

pub record LotOf (d : Day) (lot : Lot) : Type 0 where
  pub number : ℕ
  pub within : number < length d.sheet.lots.now
  pub is : lot ≡ lot_at d.sheet.lots.now number

pub record Walks (d : Day) (s : List ℕ) : Type 0 where
  pub some_steps : 1 ≤ length s
  pub known : (k : ℕ) → k < length s → slice_index s k < length d.sheet.activities.now

abbrev pub knotted : Yard → List ℕ → Bool
knotted g s = unstruck g s && scan (hot g) (live g) (nat_lt 0 (worst g (finish g s))) false false false s

pub tangled_by_steps : (g : Yard) (i : ℕ) → tangled g i ≡ knotted g (path g i)
unfolding tangled
tangled_by_steps g i = refl

-- a lot's way is its own stretch of the step table, which is what `Day::steps_of` hands on
pub path_by_steps : (g : Yard) (i : ℕ) → path g i ≡ stretch (lot_at g.sheet.lots i) g.sheet.steps
unfolding path
path_by_steps g i = refl

-- where a lot ends, and whether it is whole, is told of its steps
pub end_by_steps : (g : Yard) (i : ℕ) → end g i ≡ finish g (path g i)
end_by_steps g i = refl

pub whole_by_steps : (g : Yard) (i : ℕ) → whole g i ≡ unstruck g (path g i)
whole_by_steps g i = refl

abbrev pub lots_on : Day → Yard
lots_on d = yard_of (λ margin lateness. 0) d

abbrev pub waits_by : List ℕ → Choice
waits_by bytes a = slice_index bytes a == 0

abbrev pub gone_by : List ℕ → ℕ → Bool
gone_by bytes a = not (waits_by bytes a)

abbrev pub missed_by : List ℕ → List ℕ → Bool
missed_by bytes s = some (gone_by bytes) s
