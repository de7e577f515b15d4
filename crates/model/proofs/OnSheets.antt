-- What a well-formed sheet, a lawful rule and lawful prices give the proofs to stand on.
use Rattle.std.proofs.Common.{◌≡◌, ℕ, zero, suc, ◌+◌, ◌<◌, ◌≤◌, Bool, true, false, ltb, ◌⊎◌, List, [], ◌∷◌, length, get_or, take, drop, Some, None, sym, refl, ap, ◌∙◌, subst, inl, inr, arith}
use Rattle.std.proofs.lemmas.List.{drop-drop, length-take-le}
use Rattle.std.proofs.lemmas.Bool.{and_parts, ltb-true, leb-true, eqb-true, cases_lt, cases_Bool}
use Rattle.sheet.specs.declared.records.Event.{Event}
use Rattle.sheet.specs.declared.records.Activity.{Activity}
use Rattle.sheet.specs.declared.records.Lot.{Lot}
use Rattle.sheet.specs.Rules.{Tables, every, activity_at, no_activity, lot_at, stretch, activity_keeps, path_keeps, step_keeps, lots_keep, well_formed}
use Rattle.sheet.proofs.Stretches.{kept_of, first_of}
use Rattle.carry.specs.Laws.{LawfulRule}
use Rattle.tariff.specs.Prices.{Prices, LawfulPrices}
use Rattle.sums.specs.Totals.{lot_weight}
use Rattle.model.specs.declared.mark.Mark.{Mark}
use Rattle.model.specs.Yard.{Yard, event_count, activity_count, tail, head, handed, noted}
use Rattle.model.specs.Lots.{lot_count, path, ends, begins, start, end}
use Rattle.model.specs.Tolls.{fares_of}
use Rattle.model.specs.Tangles.{TangledLot, tangled}
use Rattle.model.specs.Laws.{yard, Reported, Clear}
use Rattle.model.proofs.Ground.{Sound, Chain, Orderly, noted_past}
use Rattle.model.proofs.Rooms.{Weighed}
use Rattle.model.proofs.Tangles.{tangled_decides, untangled_lot}

-- every record of a table keeps its rule
pub every_at : {A : Type 0} (test : A → Bool) (xs : List A) → every test xs ≡ true → (i : ℕ) (d : A) → i < length xs → test (get_or xs i d) ≡ true
every_at test [] h i d k = absurd (omega arith)
every_at test (x ∷ xs) h zero d k = (and_parts (test x) (every test xs) h).0
every_at test (x ∷ xs) h (suc i) d k = every_at test xs (and_parts (test x) (every test xs) h).1 i d (omega arith)

-- the rule of an activity, in parts
pub activity_parts : (events : List Event) (a : Activity) → activity_keeps events a ≡ true → (a.tail < a.head) × (a.head < length events)
activity_parts events a h =
    let x = and_parts _ _ h in
    let y = and_parts _ _ x.1 in
    (ltb-true a.tail a.head x.0, ltb-true a.head (length events) y.0)

module _ (t : Tables) (rule : ℕ → ℕ → ℕ) (delay : ℕ → ℕ) (mark : ℕ → Mark) (w : well_formed t ≡ true) (lawful : LawfulRule rule) where
  each_activity : (a : ℕ) → a < length t.activities → ((activity_at t.activities a).tail < (activity_at t.activities a).head) × ((activity_at t.activities a).head < length t.events)
  each_activity a h = activity_parts t.events (activity_at t.activities a) (every_at (activity_keeps t.events) t.activities (kept_of t w).activities a no_activity h)

  pub sound : Sound (yard t rule delay mark)
  unfolding tail head handed activity_count event_count
  sound = record {
    before = λ a h. (each_activity a h).0;
    within = λ a h. (each_activity a h).1;
    still = λ a. lawful.punctual (activity_at t.activities a).margin;
    mono = λ a l m h. lawful.rising (activity_at t.activities a).margin l m h;
    under = λ a l. lawful.no_growth (activity_at t.activities a).margin l;
  }

pub period_most : (t : Tables) → well_formed t ≡ true → t.period ≤ 1440
period_most t w = leb-true t.period 1440 (and_parts _ _ (kept_of t w).period).1

-- each lot's stretch is a way of one step at least
pub record Way (t : Tables) (i : ℕ) : Type 0 where
  pub keeps : path_keeps t.activities None (stretch (lot_at t.lots i) t.steps) ≡ true
  pub some_steps : 1 ≤ length (stretch (lot_at t.lots i) t.steps)

way_in : (activities : List Activity) (first : ℕ) (ls : List Lot) (left steps : List ℕ) → lots_keep activities first ls left ≡ true → drop first steps ≡ left → (i : ℕ) → i < length ls
    → (path_keeps activities None (stretch (lot_at ls i) steps) ≡ true) × (1 ≤ length (stretch (lot_at ls i) steps))
way_in activities first [] left steps h d i k = absurd (omega arith)
way_in activities first (l ∷ ls) left steps h d zero k =
    let f = first_of activities first l ls left h in
    let own : take l.count left ≡ stretch l steps = sym (ap (λ (j : ℕ). take l.count (drop j steps)) f.starts ∙ ap (take l.count) d) in
    let n = length-take-le l.count left f.within in
    let c = leb-true 1 l.count (and_parts _ _ (and_parts _ _ f.lot).1).0 in
    subst (λ (s : List ℕ). (path_keeps activities None s ≡ true) × (1 ≤ length s)) own (f.path, omega arith)
way_in activities first (l ∷ ls) left steps h d (suc i) k =
    let f = first_of activities first l ls left h in
    way_in activities (first + l.count) ls (drop l.count left) steps f.others (sym (drop-drop l.count first steps) ∙ ap (drop l.count) d) i (omega arith)

pub way_of : (t : Tables) → well_formed t ≡ true → (i : ℕ) → i < length t.lots → Way t i
way_of t w i h = let r = way_in t.activities 0 t.lots t.steps t.steps (kept_of t w).lots refl i h in record { keeps = r.0; some_steps = r.1 }

module _ (g : Yard) where
  -- a way that leads on from e
  chain_on : (e : ℕ) (s : List ℕ) → path_keeps g.sheet.activities (Some e) s ≡ true → Chain g e s
  unfolding tail head activity_count
  chain_on e [] h = tt
  chain_on e (a ∷ s) h =
      let x = and_parts (step_keeps g.sheet.activities (Some e) a) _ h in
      let y = and_parts (ltb a (length g.sheet.activities)) _ x.0 in
      (ltb-true a (length g.sheet.activities) y.0, eqb-true _ e y.1, chain_on (head g a) s x.1)

  pub chain_from : (s : List ℕ) → path_keeps g.sheet.activities None s ≡ true → Chain g (begins g s) s
  unfolding tail head activity_count
  chain_from [] h = tt
  chain_from (a ∷ s) h =
      let x = and_parts (step_keeps g.sheet.activities None a) _ h in
      let y = and_parts (ltb a (length g.sheet.activities)) _ x.0 in
      (ltb-true a (length g.sheet.activities) y.0, refl, chain_on (head g a) s x.1)

  -- where a way ends that has a step
  ends_within : Sound g → (e : ℕ) (a : ℕ) (s : List ℕ) → Chain g e (a ∷ s) → ends g e (a ∷ s) < event_count g
  unfolding ends
  ends_within so e a [] c = so.within a c.0
  ends_within so e a (b ∷ s) c = ends_within so (head g a) b s c.2

  pub end_within : Sound g → (s : List ℕ) → 1 ≤ length s → Chain g (begins g s) s → ends g (begins g s) s < event_count g
  end_within so [] n c = absurd (omega arith)
  end_within so (a ∷ s) n c = ends_within so (tail g a) a s c

module _ {A : Type 0} (t : Tables) (rule : ℕ → ℕ → ℕ) (delay : ℕ → ℕ) (mark : ℕ → Mark) (p : Prices A) (w : well_formed t ≡ true) (lawful : LawfulRule rule) (fair : LawfulPrices p)
    (reported : Reported (yard t rule delay mark)) where
  pub noted_most : (e : ℕ) → noted (yard t rule delay mark) e ≤ t.period
  noted_most e = go (cases_lt e (event_count (yard t rule delay mark)))
    where
      go : (e < event_count (yard t rule delay mark)) ⊎ (event_count (yard t rule delay mark) ≤ e) → noted (yard t rule delay mark) e ≤ t.period
      go (inl h) = reported e h
      go (inr h) = let n = noted_past (yard t rule delay mark) e h in omega arith

  chained : (i : ℕ) → i < lot_count (yard t rule delay mark) → Chain (yard t rule delay mark) (start (yard t rule delay mark) i) (path (yard t rule delay mark) i)
  unfolding path lot_count
  chained i h = chain_from (yard t rule delay mark) (stretch (lot_at t.lots i) t.steps) (way_of t w i h).keeps

  ended : (i : ℕ) → i < lot_count (yard t rule delay mark) → end (yard t rule delay mark) i < event_count (yard t rule delay mark)
  unfolding path lot_count
  ended i h = end_within (yard t rule delay mark) (sound t rule delay mark w lawful) (stretch (lot_at t.lots i) t.steps) (way_of t w i h).some_steps (chain_from (yard t rule delay mark) (stretch (lot_at t.lots i) t.steps) (way_of t w i h).keeps)

  no_knot : (i : ℕ) → (TangledLot (yard t rule delay mark) i → ⊥) → tangled (yard t rule delay mark) i ≡ false
  no_knot i none = go (cases_Bool (tangled (yard t rule delay mark) i))
    where
      go : (tangled (yard t rule delay mark) i ≡ true) ⊎ (tangled (yard t rule delay mark) i ≡ false) → tangled (yard t rule delay mark) i ≡ false
      go (inl h) = absurd (none ((tangled_decides (yard t rule delay mark) i).0 h))
      go (inr h) = h

  pub orderly : Clear (yard t rule delay mark) → Orderly (yard t rule delay mark) p.tolls (fares_of p (yard t rule delay mark)) t.period
  orderly clear = record {
    chain = chained;
    finish = ended;
    free = λ i h. fair.punctual _ _;
    dearer = λ i s u h k. fair.rising _ _ s u k;
    covers = λ i s h k. fair.covers _ _ s t.period k;
    bounded = noted_most;
    untangled = λ i h. untangled_lot (yard t rule delay mark) i (no_knot i (clear.no_tangle i h));
  }

  pub weighed : Weighed (yard t rule delay mark) p.tolls (fares_of p (yard t rule delay mark)) t.period (λ i. lot_weight (lot_at t.lots i))
  weighed = record {
    lates = λ i s h k. fair.late_bulk _ _ s (let m = period_most t w in omega arith);
    misses = λ i h. fair.miss_bulk _ _ t.period (period_most t w);
  }
