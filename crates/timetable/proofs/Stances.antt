-- A day's activities, as the yard has them.
use Rattle.std.proofs.Common.{◌≡◌, ℕ, ◌<◌, ◌≤◌, Bool, true, false, cond, ◌&&◌, ltb, leb, List, length, get_or, sym, refl, ap, ◌∙◌}
use Rattle.std.proofs.lemmas.Bool.{and_parts, leb-true}
use Rattle.sheet.specs.declared.records.Kind.{Kind}
use Rattle.sheet.specs.declared.records.Kind.TheVariants.{Drive, Stand, Transfer}
use Rattle.sheet.specs.declared.records.Event.{Event}
use Rattle.sheet.specs.declared.records.Activity.{Activity}
use Rattle.sheet.specs.Rules.{activity_at, event_at, ends_fit, no_activity, activity_keeps}
use Rattle.sheet.proofs.Stretches.{kept_of}
use Rattle.model.specs.declared.mark.Mark.{Mark}
use Rattle.model.specs.declared.mark.Mark.TheVariants.{Unmarked, Held, Struck}
use Rattle.model.specs.Yard.{handed, tail, transfer, struck, unmarked, is_transfer, is_struck, is_unmarked}
use Rattle.model.specs.Lateness.{Choice, binds, worst}
use Rattle.model.specs.Meeting.{live}
use Rattle.model.proofs.OnSheets.{every_at, activity_parts}
use Rattle.timetable.specs.declared.day.stance.Stance.{Stance}
use Rattle.timetable.specs.declared.day.stance.Stance.TheVariants.{Bound, Open, Gone}
use Rattle.timetable.specs.declared.day.Day.{Day}
use Rattle.timetable.specs.Days.{sheet_on, yard_of, mark_on, marked, no_mark, tried, by_mark, stance_of, stance_at}

-- whether an activity binds, by how it stands and what the choice says
abbrev pub binding : Stance → Bool → Bool
binding Bound w = true
binding Open w = w
binding Gone w = false

-- the same with the strike on trial in the mark
standing : Kind → Mark → Stance
standing Drive m = Bound
standing Stand m = Bound
standing Transfer m = by_mark m

by_kind : (k : Kind) (m : Mark) (w : Bool) → cond (is_transfer k && is_struck m) false (cond (is_transfer k && is_unmarked m) w true) ≡ binding (standing k m) w
unfolding standing
by_kind Drive m w = refl
by_kind Stand m w = refl
by_kind Transfer Unmarked w = refl
by_kind Transfer Held w = refl
by_kind Transfer Struck w = refl

stands_so : (k : Kind) (m : Mark) (t : Bool) → standing k (marked t m) ≡ stance_of k m t
unfolding standing
stands_so Drive m t = refl
stands_so Stand m t = refl
stands_so Transfer m t = refl

pub binds_by : (rule : ℕ → ℕ → ℕ) (d : Day) (z : Choice) (a : ℕ) → binds (yard_of rule d) z a ≡ binding (stance_at d.sheet.activities.now d.marks.now d.trial a) (z a)
unfolding transfer struck unmarked
binds_by rule d z a =
    by_kind (activity_at d.sheet.activities.now a).kind (mark_on d.marks.now d.trial a) (z a)
    ∙ ap (λ (s : Stance). binding s (z a)) (stands_so (activity_at d.sheet.activities.now a).kind (get_or d.marks.now a no_mark).mark (tried d.trial a))

pub handed_is : (rule : ℕ → ℕ → ℕ) (d : Day) (a lateness : ℕ) → handed (yard_of rule d) a lateness ≡ rule (activity_at d.sheet.activities.now a).margin lateness
unfolding handed
handed_is rule d a lateness = refl

margin_kept : (events : List Event) (a : Activity) → activity_keeps events a ≡ true → a.margin ≤ 1440
margin_kept events a h =
    let x = and_parts (ltb a.tail a.head) _ h in
    let y = and_parts (ltb a.head (length events)) _ x.1 in
    let w = and_parts (leb a.margin 1440) (ends_fit a.kind (event_at events a.tail) (event_at events a.head)) y.1 in
    leb-true a.margin 1440 w.0

pub margin_short : (d : Day) (a : ℕ) → a < length d.sheet.activities.now → (activity_at d.sheet.activities.now a).margin ≤ 1440
margin_short d a h =
    margin_kept d.sheet.events.now (activity_at d.sheet.activities.now a) (every_at (activity_keeps d.sheet.events.now) d.sheet.activities.now (kept_of (sheet_on d) d.sheet.kept).activities a no_activity h)

-- an activity leads from a lower to a higher event of the sheet
pub leads : (d : Day) (a : ℕ) → a < length d.sheet.activities.now → ((activity_at d.sheet.activities.now a).tail < (activity_at d.sheet.activities.now a).head) × ((activity_at d.sheet.activities.now a).head < length d.sheet.events.now)
leads d a h =
    activity_parts d.sheet.events.now (activity_at d.sheet.activities.now a) (every_at (activity_keeps d.sheet.events.now) d.sheet.activities.now (kept_of (sheet_on d) d.sheet.kept).activities a no_activity h)

-- what an activity hands on under a choice, by how it stands
pub handed_so : (rule : ℕ → ℕ → ℕ) (d : Day) (z : Choice) (a lateness : ℕ) (s : Stance) (b : Bool) → s ≡ stance_at d.sheet.activities.now d.marks.now d.trial a → binding s (z a) ≡ b
    → cond b (rule (activity_at d.sheet.activities.now a).margin lateness) 0 ≡ cond (binds (yard_of rule d) z a) (handed (yard_of rule d) a lateness) 0
handed_so rule d z a lateness s b e h =
    sym (ap (λ (x : Bool). cond x (handed (yard_of rule d) a lateness) 0) (binds_by rule d z a ∙ ap (λ (x : Stance). binding x (z a)) (sym e) ∙ h) ∙ ap (λ (x : ℕ). cond b x 0) (handed_is rule d a lateness))

-- a struck transfer is one that goes whatever the choice says
abbrev pub off : Stance → Bool
off Bound = false
off Open = false
off Gone = true

struck_kind : (k : Kind) (m : Mark) → (is_transfer k && is_struck m) ≡ off (standing k m)
unfolding standing
struck_kind Drive m = refl
struck_kind Stand m = refl
struck_kind Transfer Unmarked = refl
struck_kind Transfer Held = refl
struck_kind Transfer Struck = refl

pub struck_by : (rule : ℕ → ℕ → ℕ) (d : Day) (a : ℕ) → struck (yard_of rule d) a ≡ off (stance_at d.sheet.activities.now d.marks.now d.trial a)
unfolding transfer struck
struck_by rule d a =
    struck_kind (activity_at d.sheet.activities.now a).kind (mark_on d.marks.now d.trial a)
    ∙ ap off (stands_so (activity_at d.sheet.activities.now a).kind (get_or d.marks.now a no_mark).mark (tried d.trial a))

-- an unmarked transfer is one that the choice decides
abbrev pub decided : Stance → Bool
decided Bound = false
decided Open = true
decided Gone = false

unmarked_kind : (k : Kind) (m : Mark) → (is_transfer k && is_unmarked m) ≡ decided (standing k m)
unfolding standing
unmarked_kind Drive m = refl
unmarked_kind Stand m = refl
unmarked_kind Transfer Unmarked = refl
unmarked_kind Transfer Held = refl
unmarked_kind Transfer Struck = refl

pub unmarked_by : (rule : ℕ → ℕ → ℕ) (d : Day) (a : ℕ) → unmarked (yard_of rule d) a ≡ decided (stance_at d.sheet.activities.now d.marks.now d.trial a)
unfolding transfer unmarked
unmarked_by rule d a =
    unmarked_kind (activity_at d.sheet.activities.now a).kind (mark_on d.marks.now d.trial a)
    ∙ ap decided (stands_so (activity_at d.sheet.activities.now a).kind (get_or d.marks.now a no_mark).mark (tried d.trial a))

-- whether an activity is live, by how it stands
pub live_so : (rule : ℕ → ℕ → ℕ) (d : Day) (a : ℕ) (s : Stance) → s ≡ stance_at d.sheet.activities.now d.marks.now d.trial a
    → cond (off s) false (ltb 0 (rule (activity_at d.sheet.activities.now a).margin (worst (yard_of rule d) (activity_at d.sheet.activities.now a).tail))) ≡ live (yard_of rule d) a
unfolding handed tail
live_so rule d a s e = ap (λ (b : Bool). cond b false (ltb 0 (rule (activity_at d.sheet.activities.now a).margin (worst (yard_of rule d) (activity_at d.sheet.activities.now a).tail)))) (ap off e ∙ sym (struck_by rule d a))
