-- What leaves an event of a day, and the reserves, as the yard has them.
use Rattle.std.proofs.Common.{◌≡◌, ℕ, ◌<◌, ◌≤◌, Bool, true, false, cond, not, ◌&&◌, eqb, List, length, get_or, sym, refl, ap, ◌∙◌, arith}
use Rattle.std.proofs.lemmas.Bool.{leb-true, eq-eqb, ne_eqb}
use Rattle.sheet.specs.Rules.{activity_at, event_at, no_event, event_keeps}
use Rattle.sheet.proofs.Stretches.{kept_of}
use Rattle.carry.specs.Laws.{LawfulRule, Remains}
use Rattle.model.specs.Yard.{Yard, activity_count, tail, head, handed, struck}
use Rattle.model.specs.Finite.{low}
use Rattle.model.specs.Reserves.{tolerance, remaining, reserve}
use Rattle.model.proofs.OnSheets.{every_at, sound, period_most}
use Rattle.model.proofs.Reserves.{reserve_is, reserve_tolerance}
use Rattle.timetable.specs.declared.day.Day.{Day}
use Rattle.timetable.specs.Days.{sheet_on, delay_on, mark_on, yard_of}
use Rattle.timetable.proofs.Stances.{leads}
use Rattle.reserves.specs.Leaving.{ReservedAfter}
use Rattle.reserves.proofs.Lows.{remains_is}

-- an activity that leaves an event and is no struck transfer
abbrev pub out_of : Yard → ℕ → ℕ → Bool
out_of g e a = eqb (tail g a) e && not (struck g a)

-- how late an activity lets an event be: as its tolerance has it where it does not go out of the event
abbrev pub leaves_over : Yard → ℕ → ℕ → ℕ
leaves_over g e a = cond (out_of g e a) (remaining g a (reserve g (head g a))) (tolerance g e)

-- by its tail, and by whether it is a struck transfer
module _ (g : Yard) (e a : ℕ) where
  pub over_elsewhere : ((activity_at g.sheet.activities a).tail ≡ e → ⊥) → leaves_over g e a ≡ tolerance g e
  unfolding tail
  over_elsewhere n = rw (ne_eqb (tail g a) e n) refl

  pub over_struck : (gone : Bool) → gone ≡ struck g a → gone ≡ true → leaves_over g e a ≡ tolerance g e
  over_struck gone s t = go (eqb (tail g a) e) (struck g a) (sym s ∙ t)
    where
      go : (here s : Bool) → s ≡ true → cond (here && not s) (remaining g a (reserve g (head g a))) (tolerance g e) ≡ tolerance g e
      go true s h = rw h refl
      go false s h = refl

  pub over_out : (gone : Bool) → (activity_at g.sheet.activities a).tail ≡ e → gone ≡ struck g a → gone ≡ false → leaves_over g e a ≡ remaining g a (reserve g (head g a))
  unfolding tail
  over_out gone h s f = rw (eq-eqb (tail g a) e h, sym s ∙ f) refl

module _ (rule : ℕ → ℕ → ℕ) (d : Day) (lawful : LawfulRule rule) where
  pub reserve_so : (e : ℕ) → low (length d.sheet.activities.now) (leaves_over (yard_of rule d) e) (tolerance (yard_of rule d) e) ≡ reserve (yard_of rule d) e
  unfolding activity_count
  reserve_so e = sym (reserve_is (yard_of rule d) (sound (sheet_on d) rule (delay_on d.delays.now) (mark_on d.marks.now d.trial) d.sheet.kept lawful) e)

  -- no reserve is longer than the period
  pub reserve_short : (e : ℕ) → e < length d.sheet.events.now → reserve (yard_of rule d) e ≤ 1440
  unfolding tolerance
  reserve_short e h =
      let so = sound (sheet_on d) rule (delay_on d.delays.now) (mark_on d.marks.now d.trial) d.sheet.kept lawful in
      let w = reserve_tolerance (yard_of rule d) so e in
      let k = leb-true (event_at d.sheet.events.now e).tolerance d.sheet.period (every_at (event_keeps d.sheet.period) d.sheet.events.now (kept_of (sheet_on d) d.sheet.kept).events e no_event h) in
      let p = period_most (sheet_on d) d.sheet.kept in
      omega arith

  -- what the rule tells to remain at an activity's tail
  pub remaining_so : (a allowance most : ℕ) → Remains rule (activity_at d.sheet.activities.now a).margin allowance most → most ≡ remaining (yard_of rule d) a allowance
  unfolding handed
  remaining_so a allowance most m = remains_is rule (activity_at d.sheet.activities.now a).margin allowance most lawful m

  -- the cell at the head of an activity that leaves the event, in a table that holds the reserves of the events after it
  module _ (e a : ℕ) (known : a < length d.sheet.activities.now) (leaves : (activity_at d.sheet.activities.now a).tail ≡ e)
      (reserves : List ℕ) (after : ReservedAfter rule d e reserves) (h : ℕ) (is : h ≡ (activity_at d.sheet.activities.now a).head) where
    head_after : (e < h) × (h < length d.sheet.events.now)
    head_after = let o = leads d a known in (omega (arith, o, is, leaves), omega (arith, o, is))

    pub head_room : h < length reserves
    head_room = omega (arith, head_after, after.room)

    pub head_reserve : get_or reserves h 0 ≡ reserve (yard_of rule d) (head (yard_of rule d) a)
    unfolding head
    head_reserve = after.holds h head_after.0 head_after.1 ∙ ap (reserve (yard_of rule d)) is

    pub head_short : get_or reserves h 0 ≤ 1440
    head_short = let r = after.holds h head_after.0 head_after.1 in let s = reserve_short h head_after.1 in omega arith
