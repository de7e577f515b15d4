-- What is written of a sheet is read back as that sheet.
use Rattle.std.proofs.Common.{◌≡◌, ℕ, suc, ◌+◌, ◌*◌, ◌/◌, ◌%◌, ◌≤◌, Bool, true, ◌&&◌, List, [], ◌∷◌, ◌++◌, map, length, take, drop, Some, None, Ok, Option, Result, sym, refl, ap, ◌∙◌, arith, length-drop}
use Rattle.std.specs.List.{flat_map}
use Rattle.std.proofs.lemmas.List.{append_assoc, append-nil, length-take-le, take-append-drop, drop-drop, nil_from_length}
use Rattle.std.proofs.lemmas.Bool.{and_parts, le-ltb, eqb-true, leb-true}
use Rattle.sheet.specs.declared.records.Side.{Side}
use Rattle.sheet.specs.declared.records.Side.TheVariants.{Arrival, Departure}
use Rattle.sheet.specs.declared.records.Kind.{Kind}
use Rattle.sheet.specs.declared.records.Kind.TheVariants.{Drive, Stand, Transfer}
use Rattle.sheet.specs.declared.records.Class.{Class}
use Rattle.sheet.specs.declared.records.Class.TheVariants.{Ordinary, Express}
use Rattle.sheet.specs.declared.records.Event.{Event}
use Rattle.sheet.specs.declared.records.Activity.{Activity}
use Rattle.sheet.specs.declared.records.Lot.{Lot}
use Rattle.sheet.specs.Rules.{Tables, every, event_keeps, activity_keeps, lot_keeps, path_keeps, step_keeps, period_keeps, lots_keep, stretch, well_formed}
use Rattle.sheet.specs.Bytes.{number_bytes, side_number, kind_number, class_number, event_numbers, activity_numbers, event_bytes, activity_bytes, lot_bytes, section_bytes, bytes_of}
use Rattle.sheet.proofs.Stretches.{kept_of, first_of}
use Rattle.sheet_read.specs.declared.fault.Section.{Section}
use Rattle.sheet_read.specs.declared.fault.Section.TheVariants.{Terms, Events, Activities, Lots}
use Rattle.sheet_read.specs.declared.fault.Spot.{Spot}
use Rattle.sheet_read.specs.declared.fault.ReaderFault.{ReaderFault}
use Rattle.sheet_read.specs.declared.fault.RecordFault.{RecordFault}
use Rattle.sheet_read.specs.declared.fault.SheetFault.{SheetFault}
use Rattle.sheet_read.specs.declared.«record».LotHead.{LotHead}
use Rattle.sheet_read.specs.Numbers.{then, run, next_number, number_of, number_in, whole_run, numbers_of}
use Rattle.sheet_read.specs.Records.{in_record, passed, ruled, record_of, event_from, event_of, activity_from, activity_of, head_from, head_of, period_from, period_of, step_from, step_of}
use Rattle.sheet_read.specs.Sections.{spot_at, placed, fewest, most, at_count, counted, count_of, in_sheet, section_from, section_of}
use Rattle.sheet_read.specs.Lots.{lot_step, step_on, steps_from, room_for, LotRead, lot_with, lot_in, lot_after, lot_of, next_lot, lots_of, lot_only, steps_only, lots_answer, lots_read, steps_read}
use Rattle.sheet_read.specs.Sheets.{Room, LotsReading, closed, lots_section_from, lots_section_of, lots_then, activities_then, events_then, terms_of, terms_then, reading_of}
use Rattle.sheet_write.specs.Writing.{HasRoom, whole_reading}
use Rattle.sheet_read.proofs.Running.{run_more, after}

-- ---- numbers

back : (n : ℕ) → n / 256 * 256 + n % 256 ≡ n
back n = omega arith

number_back : (at : Spot) (n : ℕ) (rest : List ℕ) → number_of at (number_bytes n ++ rest) ≡ Ok (n, rest)
number_back at n rest = ap {B = Result (ℕ × List ℕ) ReaderFault} (λ (k : ℕ). Ok (k, rest)) (back n)

-- ---- one after another

module _ {A S E : Type 0} (read : S → List ℕ → Result (A × List ℕ) E) (next : S → A → S) (each_bytes : A → List ℕ) (keeps : S → A → Bool) (all_keep : S → List A → Bool)
    (more : (s : S) (x : A) (xs : List A) → all_keep s (x ∷ xs) ≡ (keeps s x && all_keep (next s x) xs))
    (each : (s : S) (x : A) (rest : List ℕ) → keeps s x ≡ true → read s (each_bytes x ++ rest) ≡ Ok (x, rest)) where
  pub run_back : (s : S) (xs : List A) (rest : List ℕ) → all_keep s xs ≡ true → run read next s (length xs) (flat_map each_bytes xs ++ rest) ≡ (xs, Ok rest)
  run_back s [] rest h = refl
  run_back s (x ∷ xs) rest h =
      let k = and_parts (keeps s x) (all_keep (next s x) xs) (sym (more s x xs) ∙ h) in
      ap (run read next s (suc (length xs))) (append_assoc (each_bytes x) (flat_map each_bytes xs) rest)
      ∙ run_more read next s (length xs) (each_bytes x ++ (flat_map each_bytes xs ++ rest)) x (flat_map each_bytes xs ++ rest) (each s x (flat_map each_bytes xs ++ rest) k.0)
      ∙ ap (after (x ∷ [])) (run_back (next s x) xs rest k.1)

numbers_back : (at : Spot) (ns rest : List ℕ) → numbers_of (length ns) at (flat_map number_bytes ns ++ rest) ≡ Ok (ns, rest)
numbers_back at ns rest =
    ap {B = Result (List ℕ × List ℕ) ReaderFault} whole_run
    (run_back (number_in at) next_number number_bytes (λ i x. true) (λ i xs. true) (λ i x xs. refl) (λ i x xs h. number_back at x xs) 0 ns rest refl)

-- ---- records

-- a record that keeps its rule passes
kept : {A : Type 0} (test : Bool) (x : A) → test ≡ true → passed test x ≡ Some x
kept test x h = ap (λ (b : Bool). passed b x) h

record_back : {A : Type 0} (make : List ℕ → Option A) (at : Spot) (ns : List ℕ) (x : A) (rest : List ℕ) → make ns ≡ Some x → record_of make (length ns) at (flat_map number_bytes ns ++ rest) ≡ Ok (x, rest)
record_back {A = A} make at ns x rest m =
    ap {B = Result (A × List ℕ) RecordFault} (λ (r : Result (List ℕ × List ℕ) ReaderFault). then (in_record r) (λ p. then (ruled at (make p.0)) (λ y. Ok (y, p.1)))) (numbers_back at ns rest)
    ∙ ap {B = Result (A × List ℕ) RecordFault} (λ (o : Option A). then (ruled at o) (λ y. Ok (y, rest))) m

event_made : (period truck site tolerance : ℕ) (side : Side) → event_keeps period (record { truck = truck; site = site; side = side; tolerance = tolerance }) ≡ true
    → event_from period (truck ∷ site ∷ side_number side ∷ tolerance ∷ []) ≡ Some (record { truck = truck; site = site; side = side; tolerance = tolerance })
event_made period truck site tolerance Arrival h = kept _ _ h
event_made period truck site tolerance Departure h = kept _ _ h

pub event_back : (period : ℕ) (at : Spot) (e : Event) (rest : List ℕ) → event_keeps period e ≡ true → event_of period at (event_bytes e ++ rest) ≡ Ok (e, rest)
event_back period at e rest h = record_back (event_from period) at (event_numbers e) e rest (event_made period e.truck e.site e.tolerance e.side h)

activity_made : (events : List Event) (kind : Kind) (tail head margin : ℕ) → activity_keeps events (record { kind = kind; tail = tail; head = head; margin = margin }) ≡ true
    → activity_from events (kind_number kind ∷ tail ∷ head ∷ margin ∷ []) ≡ Some (record { kind = kind; tail = tail; head = head; margin = margin })
activity_made events Drive tail head margin h = kept _ _ h
activity_made events Stand tail head margin h = kept _ _ h
activity_made events Transfer tail head margin h = kept _ _ h

pub activity_back : (events : List Event) (at : Spot) (a : Activity) (rest : List ℕ) → activity_keeps events a ≡ true → activity_of events at (activity_bytes a ++ rest) ≡ Ok (a, rest)
activity_back events at a rest h = record_back (activity_from events) at (activity_numbers a) a rest (activity_made events a.kind a.tail a.head a.margin h)

period_back : (at : Spot) (n : ℕ) (rest : List ℕ) → period_keeps n ≡ true → period_of at (number_bytes n ++ rest) ≡ Ok (n, rest)
period_back at n rest h = record_back period_from at (n ∷ []) n rest (kept (period_keeps n) n h)

step_back : (activities : List Activity) (from : Option ℕ) (at : Spot) (n : ℕ) (rest : List ℕ) → step_keeps activities from n ≡ true → step_of activities from at (number_bytes n ++ rest) ≡ Ok (n, rest)
step_back activities from at n rest h = record_back (step_from activities from) at (n ∷ []) n rest (kept (step_keeps activities from n) n h)

head_made : (class : Class) (parcels count : ℕ) → lot_keeps parcels count ≡ true → head_from (class_number class ∷ parcels ∷ count ∷ []) ≡ Some (record { class = class; parcels = parcels; count = count })
head_made Ordinary parcels count h = kept _ _ h
head_made Express parcels count h = kept _ _ h

head_back : (at : Spot) (class : Class) (parcels count : ℕ) (rest : List ℕ) → lot_keeps parcels count ≡ true
    → head_of at (number_bytes (class_number class) ++ (number_bytes parcels ++ (number_bytes count ++ rest))) ≡ Ok (record { class = class; parcels = parcels; count = count }, rest)
head_back at class parcels count rest h = record_back head_from at (class_number class ∷ parcels ∷ count ∷ []) _ rest (head_made class parcels count h)

-- ---- sections

counted_back : (section : Section) (cells : ℕ) (at : Spot) (n : ℕ) (rest : List ℕ) → fewest section ≤ n → n ≤ most section → n ≤ cells → counted section cells at (n, rest) ≡ Ok (n, rest)
counted_back section cells at n rest l h r = rw (le-ltb n (fewest section) l, le-ltb (most section) n h, le-ltb cells n r)

count_back : (section : Section) (total cells n : ℕ) (rest : List ℕ) → fewest section ≤ n → n ≤ most section → n ≤ cells → count_of section total cells (number_bytes n ++ rest) ≡ Ok (n, rest)
count_back section total cells n rest l h r =
    ap {B = Result (ℕ × List ℕ) SheetFault} (λ (o : Result (ℕ × List ℕ) ReaderFault). then (at_count o) (counted section cells (spot_at section 0 total (number_bytes n ++ rest)))) (number_back (spot_at section 0 total (number_bytes n ++ rest)) n rest)
    ∙ counted_back section cells (spot_at section 0 total (number_bytes n ++ rest)) n rest l h r

module _ {A : Type 0} (read : Spot → List ℕ → Result (A × List ℕ) RecordFault) (each_bytes : A → List ℕ) (keeps : A → Bool)
    (each : (at : Spot) (x : A) (rest : List ℕ) → keeps x ≡ true → read at (each_bytes x ++ rest) ≡ Ok (x, rest)) where
  pub section_back : (section : Section) (total cells : ℕ) (xs : List A) (rest : List ℕ) → fewest section ≤ length xs → length xs ≤ most section → length xs ≤ cells → every keeps xs ≡ true
      → section_of read section total cells (section_bytes each_bytes xs ++ rest) ≡ (xs, Ok (length xs, rest))
  section_back section total cells xs rest l h r k =
      let c = count_back section total cells (length xs) (flat_map each_bytes xs ++ rest) l h r in
      let g = run_back (placed read section total) next_number each_bytes (λ i. keeps) (λ i. every keeps) (λ i x ys. refl) (λ i x ys. each (spot_at section i total (each_bytes x ++ ys)) x ys) 0 xs rest k in
      ap (section_from read section total) c
      ∙ ap {B = List A × Result (ℕ × List ℕ) SheetFault} (λ (p : List A × Result (List ℕ) RecordFault). (p.0, then (in_sheet p.1) (λ left. Ok (length xs, left)))) g

-- ---- the lots

-- each lot with its own steps, where `left` are the steps of these lots
abbrev pub with_steps : List Lot → List ℕ → List (Lot × List ℕ)
with_steps [] left = []
with_steps (l ∷ ls) left = (l, take l.count left) ∷ with_steps ls (drop l.count left)

lots_alone : (ls : List Lot) (left : List ℕ) → map lot_only (with_steps ls left) ≡ ls
lots_alone [] left = refl
lots_alone (l ∷ ls) left = ap (λ (xs : List Lot). l ∷ xs) (lots_alone ls (drop l.count left))

steps_alone : (activities : List Activity) (first : ℕ) (ls : List Lot) (left : List ℕ) → lots_keep activities first ls left ≡ true → flat_map steps_only (with_steps ls left) ≡ left
steps_alone activities first [] left h = sym (nil_from_length left (eqb-true (length left) 0 h))
steps_alone activities first (l ∷ ls) left h =
    let f = first_of activities first l ls left h in
    ap (λ (xs : List ℕ). take l.count left ++ xs) (steps_alone activities (first + l.count) ls (drop l.count left) f.others) ∙ take-append-drop l.count left

room_back : (at : Spot) (cells used count : ℕ) → used + count ≤ 4096 → used + count ≤ cells → room_for at cells used count ≡ None
room_back at cells used count h r = rw (le-ltb 4096 (used + count) h, le-ltb cells (used + count) r)

-- what the section of the lots comes to, by its run
abbrev lots_found : ℕ → ℕ → List (Lot × List ℕ) × Result (List ℕ) (List ℕ × SheetFault) → LotsReading
lots_found total n l = record { lots = lots_read l; steps = steps_read l; answer = then (lots_answer l) (λ q. then (closed total n q) (λ ss. Ok (n, ss))) }

abbrev found : List Lot → List ℕ → ℕ → ℕ → LotsReading
found ls ss n m = record { lots = ls; steps = ss; answer = Ok (n, m) }

module _ (activities : List Activity) (total cells : ℕ) where
  lot_back : (lot used : ℕ) (l : Lot) (own rest : List ℕ) → lot_keeps l.parcels l.count ≡ true → l.first ≡ used → length own ≡ l.count → path_keeps activities None own ≡ true
      → used + l.count ≤ 4096 → used + l.count ≤ cells
      → lot_of activities total cells (lot, used) (number_bytes (class_number l.class) ++ (number_bytes l.parcels ++ (number_bytes l.count ++ (flat_map number_bytes own ++ rest)))) ≡ Ok ((l, own), rest)
  lot_back lot used l own rest k f n p b r =
      let bs = number_bytes (class_number l.class) ++ (number_bytes l.parcels ++ (number_bytes l.count ++ (flat_map number_bytes own ++ rest))) in
      let at = spot_at Lots lot total bs in
      let head : LotHead = record { class = l.class; parcels = l.parcels; count = l.count } in
      let h = head_back at l.class l.parcels l.count (flat_map number_bytes own ++ rest) k in
      let s : steps_from activities lot total l.count (flat_map number_bytes own ++ rest) ≡ (own, Ok rest) =
      ap (λ (j : ℕ). steps_from activities lot total j (flat_map number_bytes own ++ rest)) (sym n)
      ∙ run_back (lot_step activities lot total) (step_on activities) number_bytes (step_keeps activities) (path_keeps activities) (λ s x xs. refl)
      (λ s x xs. step_back activities s (spot_at Lots lot total (number_bytes x ++ xs)) x xs) None own rest p in
      ap (lot_after activities total cells lot used at) h
      ∙ ap (lot_in activities total lot used (head, flat_map number_bytes own ++ rest)) (room_back at cells used l.count b r)
      ∙ ap (lot_with used head) s
      ∙ ap {B = LotRead} (λ (j : ℕ). Ok ((record { class = l.class; parcels = l.parcels; first = j; count = l.count }, own), rest)) (sym f)

  -- the lots from step `first` on, of which `left` are the steps
  lots_back : (i first : ℕ) (ls : List Lot) (steps left rest : List ℕ) → lots_keep activities first ls left ≡ true → drop first steps ≡ left → first + length left ≤ 4096 → first + length left ≤ cells
      → run (lot_of activities total cells) next_lot (i, first) (length ls) (flat_map (lot_bytes steps) ls ++ rest) ≡ (with_steps ls left, Ok rest)
  lots_back i first [] steps left rest h d b r = refl
  lots_back i first (l ∷ ls) steps left rest h d b r =
      let f = first_of activities first l ls left h in
      let own : stretch l steps ≡ take l.count left = ap (λ (k : ℕ). take l.count (drop k steps)) f.starts ∙ ap (take l.count) d in
      let behind = flat_map (lot_bytes steps) ls ++ rest in
      let n = length-take-le l.count left f.within in
      let m = length-drop l.count left in
      let one = lot_back i first l (take l.count left) behind f.lot f.starts n f.path (omega (arith, f.within, b)) (omega (arith, f.within, r)) in
      let others = lots_back (i + 1) (first + l.count) ls steps (drop l.count left) rest f.others (sym (drop-drop l.count first steps) ∙ ap (drop l.count) d)
      (omega (arith, f.within, b, m)) (omega (arith, f.within, r, m)) in
      let front = number_bytes (class_number l.class) ++ (number_bytes l.parcels ++ number_bytes l.count) in
      let shape : flat_map (lot_bytes steps) (l ∷ ls) ++ rest ≡ front ++ (flat_map number_bytes (take l.count left) ++ behind) =
      append_assoc (lot_bytes steps l) (flat_map (lot_bytes steps) ls) rest
      ∙ ap (λ (ys : List ℕ). (front ++ flat_map number_bytes ys) ++ behind) own
      ∙ append_assoc front (flat_map number_bytes (take l.count left)) behind in
      ap (run (lot_of activities total cells) next_lot (i, first) (suc (length ls))) shape
      ∙ run_more (lot_of activities total cells) next_lot (i, first) (length ls) (front ++ (flat_map number_bytes (take l.count left) ++ behind)) (l, take l.count left) behind one
      ∙ ap (after ((l, take l.count left) ∷ [])) others

  pub lots_section_back : (lot_cells : ℕ) (ls : List Lot) (steps : List ℕ) → lots_keep activities 0 ls steps ≡ true → length ls ≤ 512 → length ls ≤ lot_cells → length steps ≤ 4096 → length steps ≤ cells
      → lots_section_of activities total lot_cells cells (section_bytes (lot_bytes steps) ls) ≡ record { lots = ls; steps = steps; answer = Ok (length ls, length steps) }
  lots_section_back lot_cells ls steps k h c b r =
      let n = length ls in
      let items = with_steps ls steps in
      let j = steps_alone activities 0 ls steps k in
      let count = count_back Lots total lot_cells n (flat_map (lot_bytes steps) ls) (omega arith) h c in
      let ran : lots_of activities total cells n (flat_map (lot_bytes steps) ls) ≡ (items, Ok []) =
      ap (lots_of activities total cells n) (sym (append-nil (flat_map (lot_bytes steps) ls))) ∙ lots_back 0 0 ls steps steps [] k refl (omega (arith, b)) (omega (arith, r)) in
      ap (lots_section_from activities total cells) count
      ∙ ap (λ (l : List (Lot × List ℕ) × Result (List ℕ) (List ℕ × SheetFault)). lots_found total n l) ran
      ∙ ap (λ (xs : List Lot). found xs (flat_map steps_only items ++ []) n (length (flat_map steps_only items))) (lots_alone ls steps)
      ∙ ap (λ (xs : List ℕ). found ls xs n (length (flat_map steps_only items))) (append-nil (flat_map steps_only items) ∙ j)
      ∙ ap (λ (xs : List ℕ). found ls steps n (length xs)) j

-- ---- the whole sheet

-- a sheet's counts are in bounds
pub sizes : (t : Tables) → well_formed t ≡ true → (1 ≤ length t.events) × (length t.events ≤ 512) × (length t.activities ≤ 1024) × (length t.lots ≤ 512) × (length t.steps ≤ 4096)
sizes t h =
    let a = and_parts _ _ (kept_of t h).sizes in
    let e = and_parts _ _ a.0 in
    let b = and_parts _ _ a.1 in
    let c = and_parts _ _ b.1 in
    (leb-true 1 (length t.events) e.0, leb-true (length t.events) 512 e.1, leb-true (length t.activities) 1024 b.0, leb-true (length t.lots) 512 c.0, leb-true (length t.steps) 4096 c.1)

module _ (t : Tables) (h : well_formed t ≡ true) (room : Room) (r : HasRoom room t) where
  pub read_back : reading_of room (bytes_of t) ≡ whole_reading t
  read_back =
      let k = kept_of t h in
      let s = sizes t h in
      let total = length (bytes_of t) in
      let x₃ = section_bytes (lot_bytes t.steps) t.lots in
      let x₂ = section_bytes activity_bytes t.activities ++ x₃ in
      let x₁ = section_bytes event_bytes t.events ++ x₂ in
      let terms : terms_of total (bytes_of t) ≡ Ok (t.period, x₁) =
      ap {B = Result (ℕ × List ℕ) SheetFault} (λ (o : Result (ℕ × List ℕ) SheetFault). then o (λ p. in_sheet (period_of (spot_at Terms 0 total p.1) p.1))) (count_back Terms total 1 1 (number_bytes t.period ++ x₁) (omega arith) (omega arith) (omega arith))
      ∙ ap {B = Result (ℕ × List ℕ) SheetFault} (λ (o : Result (ℕ × List ℕ) RecordFault). in_sheet o) (period_back (spot_at Terms 0 total (number_bytes t.period ++ x₁)) t.period x₁ k.period) in
      let events = section_back (event_of t.period) event_bytes (event_keeps t.period) (event_back t.period) Events total room.events t.events x₂ s.0 s.1 r.0.0 k.events in
      let activities = section_back (activity_of t.events) activity_bytes (activity_keeps t.events) (activity_back t.events) Activities total room.activities t.activities x₃ (omega arith) s.2 r.0.1 k.activities in
      let lots = lots_section_back t.activities total room.steps room.lots t.lots t.steps k.lots s.3 r.1.0 s.4 r.1.1 in
      ap (terms_then total room) terms
      ∙ ap (events_then total t.period room) events
      ∙ ap (activities_then total t.period t.events (length t.events) room) activities
      ∙ ap (lots_then t.period t.events (length t.events) t.activities (length t.activities)) lots
