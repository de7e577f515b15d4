-- What a well-formed sheet's rules say of one record at a time.
use Rattle.std.proofs.Common.{◌≡◌, ℕ, zero, suc, ◌+◌, ◌<◌, ◌≤◌, true, List, [], ◌∷◌, length, get_or, take, drop, None, arith, length-drop}
use Rattle.std.specs.List.{AllByRecursion as All}
use Rattle.std.proofs.ByRecursion.{All-from_get_or}
use Rattle.std.proofs.lemmas.Bool.{and_parts, eqb-true, leb-true}
use Rattle.sheet.specs.declared.records.Activity.{Activity}
use Rattle.sheet.specs.declared.records.Lot.{Lot}
use Rattle.sheet.specs.Rules.{Tables, Within, no_lot, well_formed, period_keeps, sizes_keep, every, event_keeps, activity_keeps, lot_keeps, lots_keep, path_keeps}

-- the rules of a sheet, one by one
pub record Kept (t : Tables) : Type 0 where
  pub period : period_keeps t.period ≡ true
  pub sizes : sizes_keep t ≡ true
  pub events : every (event_keeps t.period) t.events ≡ true
  pub activities : every (activity_keeps t.events) t.activities ≡ true
  pub lots : lots_keep t.activities 0 t.lots t.steps ≡ true

pub kept_of : (t : Tables) → well_formed t ≡ true → Kept t
kept_of t h =
    let a = and_parts _ _ h in
    let b = and_parts _ _ a.1 in
    let c = and_parts _ _ b.1 in
    let d = and_parts _ _ c.1 in
    record { period = a.0; sizes = b.0; events = c.0; activities = d.0; lots = d.1 }

-- the rules of the first of some lots
pub record First (activities : List Activity) (first : ℕ) (l : Lot) (ls : List Lot) (steps : List ℕ) : Type 0 where
  pub lot : lot_keeps l.parcels l.count ≡ true
  pub starts : l.first ≡ first
  pub within : l.count ≤ length steps
  pub path : path_keeps activities None (take l.count steps) ≡ true
  pub others : lots_keep activities (first + l.count) ls (drop l.count steps) ≡ true

pub first_of : (activities : List Activity) (first : ℕ) (l : Lot) (ls : List Lot) (steps : List ℕ) → lots_keep activities first (l ∷ ls) steps ≡ true → First activities first l ls steps
first_of activities first l ls steps h =
    let a = and_parts _ _ h in
    let b = and_parts _ _ a.1 in
    let c = and_parts _ _ b.1 in
    let d = and_parts _ _ c.1 in
    record { lot = a.0; starts = eqb-true l.first first b.0; within = leb-true l.count (length steps) c.0; path = d.0; others = d.1 }

-- each lot's stretch lies within the step table
pub within_steps : (activities : List Activity) (first : ℕ) (ls : List Lot) (steps : List ℕ) → lots_keep activities first ls steps ≡ true
    → (i : ℕ) (d : Lot) → i < length ls → (get_or ls i d).first + (get_or ls i d).count ≤ first + length steps
within_steps activities first [] steps h i d k = absurd (omega arith)
within_steps activities first (l ∷ ls) steps h zero d k = let f = first_of activities first l ls steps h in omega (arith, f.starts, f.within)
within_steps activities first (l ∷ ls) steps h (suc i) d k =
    let f = first_of activities first l ls steps h in
    let r = within_steps activities (first + l.count) ls (drop l.count steps) f.others i d (omega arith) in
    omega (arith, r, f.within, length-drop l.count steps)

-- and so does each of them
pub all_within : (t : Tables) → well_formed t ≡ true → All (Within t.steps) t.lots
all_within t h =
    All-from_get_or (Within t.steps) t.lots no_lot (λ i k. let w = within_steps t.activities 0 t.lots t.steps (kept_of t h).lots i no_lot k in omega (arith, w))
