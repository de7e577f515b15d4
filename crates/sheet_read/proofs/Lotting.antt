-- The lots: what one lot's reading says, and what the loop over the lots has read and written.
use Rattle.std.proofs.Common.{◌≡◌, ℕ, ◌+◌, ◌<◌, ◌≤◌, Bool, true, false, cond, ltb, List, [], ◌∷◌, ◌++◌, map, length, set, take, drop, Some, None, Ok, Err, Option, Result, sym, refl, ap, ◌∙◌, zero-add, arith, length-drop}
use Rattle.std.proofs.lemmas.List.{append_assoc, append-nil, length-append, length-map, map-append, length-take-le, drop-append-le, take-append-drop}
use Rattle.std.proofs.lemmas.Bool.{ltb-false}
use Rattle.std.specs.List.{flat_map}
use Rattle.sheet.specs.declared.records.Activity.{Activity}
use Rattle.sheet.specs.declared.records.Lot.{Lot}
use Rattle.sheet.specs.Laid.{laid}
use Rattle.sheet.proofs.Laying.{laid_none, laid_more, laid_laid}
use Rattle.sheet_read.specs.declared.fault.Section.TheVariants.{Lots}
use Rattle.sheet_read.specs.declared.fault.Spot.{Spot}
use Rattle.sheet_read.specs.declared.fault.RecordFault.{RecordFault}
use Rattle.sheet_read.specs.declared.fault.SheetFault.{SheetFault}
use Rattle.sheet_read.specs.declared.fault.SheetFault.TheVariants.{Bounds, Table}
use Rattle.sheet_read.specs.declared.«record».LotHead.{LotHead}
use Rattle.sheet_read.specs.Records.{head_of}
use Rattle.sheet_read.specs.Sections.{spot_at}
use Rattle.sheet_read.specs.Lots.{lot_step, step_on, steps_from, room_for, LotRead, lot_made, lot_with, lot_in, lot_after, lot_of, lot_alone, lot_steps, next_lot, lots_of, lot_only, steps_only, lots_read, steps_read, lots_answer}
use Rattle.sheet_read.proofs.Running.{run_length, Reached, reached_none, reached_more, reached_fault, reached_all}

-- a lot that was read, by its head and its steps
pub record LotFound (activities : List Activity) (total cells lot used : ℕ) (bs : List ℕ) (l : Lot) (steps rest : List ℕ) : Type 0 where
  pub head : LotHead × List ℕ
  pub headed : head_of (spot_at Lots lot total bs) bs ≡ Ok head
  pub made : l ≡ lot_made used head.0
  pub bounded : used + l.count ≤ 4096
  pub roomy : used + l.count ≤ cells
  pub stepped : steps_from activities lot total l.count head.1 ≡ (steps, Ok rest)
  pub long : length steps ≡ l.count

room_none : (at : Spot) (cells used count : ℕ) → room_for at cells used count ≡ None → (used + count ≤ 4096) × (used + count ≤ cells)
room_none at cells used count h = outer (ltb 4096 (used + count)) (ltb cells (used + count)) refl refl h
  where
    outer : (a b : Bool) → ltb 4096 (used + count) ≡ a → ltb cells (used + count) ≡ b → cond a (Some (Bounds at)) (cond b (Some (Table at)) None) ≡ None → (used + count ≤ 4096) × (used + count ≤ cells)
    outer true b p q e = cc
    outer false true p q e = cc
    outer false false p q e = (ltb-false 4096 (used + count) p, ltb-false cells (used + count) q)

lot_with_ok : (used : ℕ) (h : LotHead) (r : List ℕ × Result (List ℕ) RecordFault) (p : (Lot × List ℕ) × List ℕ) → lot_with used h r ≡ Ok p → (r ≡ (p.0.1, Ok p.1)) × (p.0.0 ≡ lot_made used h)
lot_with_ok used h (steps, Ok rest) p e =
    let q : ((lot_made used h, steps), rest) ≡ p = cc in
    (ap {B = List ℕ × Result (List ℕ) RecordFault} (λ (x : (Lot × List ℕ) × List ℕ). (x.0.1, Ok x.1)) q, ap (λ (x : (Lot × List ℕ) × List ℕ). x.0.0) (sym q))
lot_with_ok used h (steps, Err f) p e = cc

module _ (activities : List Activity) (total cells lot used : ℕ) (bs : List ℕ) where
  found_in : (h : LotHead × List ℕ) (o : Option SheetFault) (p : (Lot × List ℕ) × List ℕ) → head_of (spot_at Lots lot total bs) bs ≡ Ok h
      → room_for (spot_at Lots lot total bs) cells used h.0.count ≡ o → lot_in activities total lot used h o ≡ Ok p → LotFound activities total cells lot used bs p.0.0 p.0.1 p.1
  found_in h (Some f) p e r q = cc
  found_in h None p e r q =
      let w = lot_with_ok used h.0 (steps_from activities lot total h.0.count h.1) p q in
      let room = room_none (spot_at Lots lot total bs) cells used h.0.count r in
      let n : p.0.0.count ≡ h.0.count = ap (λ (l : Lot). l.count) w.1 in
      let long = run_length (lot_step activities lot total) (step_on activities) None h.0.count h.1 p.0.1 p.1 w.0 in
      record { head = h; headed = e; made = w.1; bounded = omega (arith, n, room.0); roomy = omega (arith, n, room.1); stepped = rw n w.0; long = long ∙ sym n }

  found_after : (r : Result (LotHead × List ℕ) RecordFault) (p : (Lot × List ℕ) × List ℕ) → head_of (spot_at Lots lot total bs) bs ≡ r
      → lot_after activities total cells lot used (spot_at Lots lot total bs) r ≡ Ok p → LotFound activities total cells lot used bs p.0.0 p.0.1 p.1
  found_after (Err f) p e q = cc
  found_after (Ok h) p e q = found_in h (room_for (spot_at Lots lot total bs) cells used h.0.count) p e refl q

  pub lot_found : (p : (Lot × List ℕ) × List ℕ) → lot_of activities total cells (lot, used) bs ≡ Ok p → LotFound activities total cells lot used bs p.0.0 p.0.1 p.1
  lot_found p q = found_after (head_of (spot_at Lots lot total bs) bs) p refl q

-- a lot with its steps, by the lot alone that the program has
pub lot_whole : (r : LotRead) (l : Lot) (rest : List ℕ) → lot_alone r ≡ Ok (l, rest) → r ≡ Ok ((l, lot_steps r), rest)
lot_whole (Ok p) l rest e =
    let q : (p.0.0, p.1) ≡ (l, rest) = cc in
    ap {B = LotRead} (λ (x : Lot × List ℕ). Ok ((x.0, p.0.1), x.1)) q
lot_whole (Err f) l rest e = cc

pub lot_broken : (r : LotRead) (f : SheetFault) → lot_alone r ≡ Err f → r ≡ Err (lot_steps r, f)
lot_broken (Ok p) f e = cc
lot_broken (Err g) f e = let q : g.1 ≡ f = cc in ap {B = LotRead} (λ (x : SheetFault). Err (g.0, x)) q

lot_with_steps : (used : ℕ) (h : LotHead) (r : List ℕ × Result (List ℕ) RecordFault) → lot_steps (lot_with used h r) ≡ r.0
lot_with_steps used h (steps, Ok rest) = refl
lot_with_steps used h (steps, Err f) = refl

-- the steps that are read once the lot's head is known to have room
own_steps : (activities : List Activity) (total cells lot used : ℕ) (bs : List ℕ) (h : LotHead) (rest : List ℕ) → head_of (spot_at Lots lot total bs) bs ≡ Ok (h, rest)
    → room_for (spot_at Lots lot total bs) cells used h.count ≡ None → lot_steps (lot_of activities total cells (lot, used) bs) ≡ (steps_from activities lot total h.count rest).0
own_steps activities total cells lot used bs h rest e r =
    ap (λ (x : Result (LotHead × List ℕ) RecordFault). lot_steps (lot_after activities total cells lot used (spot_at Lots lot total bs) x)) e
    ∙ ap (λ (x : Option SheetFault). lot_steps (lot_in activities total lot used (h, rest) x)) r
    ∙ lot_with_steps used h (steps_from activities lot total h.count rest)

-- steps laid into a stretch of the table
laid_own : (used count : ℕ) (xs own old : List ℕ) → own ≡ laid 0 xs (take count (drop used old)) → length own ≡ length (take count (drop used old)) → used + count ≤ length old
    → take used old ++ (own ++ drop count (drop used old)) ≡ laid used xs old
laid_own used count xs own old e l h =
    let d = drop used old in
    let n : length (take count d) ≡ count = length-take-le count d (omega (arith, length-drop used old, h)) in
    let k : length xs ≤ length (take count d) = omega (arith, l, ap length e, length-append xs (drop (length xs) (take count d))) in
    let joined : drop (length xs) (take count d) ++ drop count d ≡ drop (length xs) d =
    sym (drop-append-le (length xs) (take count d) (drop count d) k) ∙ ap (drop (length xs)) (take-append-drop count d) in
    ap (λ (ys : List ℕ). take used old ++ (ys ++ drop count d)) e
    ∙ ap (λ (ys : List ℕ). take used old ++ ys) (append_assoc xs (drop (length xs) (take count d)) (drop count d) ∙ ap (λ (ys : List ℕ). xs ++ ys) joined)

-- what a lot's reading leaves of the step table, where it lends the lot's stretch of `k` cells from cell `a` on
module _ (activities : List Activity) (total lot used : ℕ) (bs : List ℕ) (old : List ℕ) where
  pub own_laid : (at : Spot) (h : LotHead) (rest own : List ℕ) (left a k : ℕ) → at ≡ spot_at Lots lot total bs → Ok (h, rest) ≡ head_of at bs → None ≡ room_for at (length old) used h.count
      → left ≡ total → a ≡ used → k ≡ h.count → own ≡ laid 0 (steps_from activities lot left (length (take k (drop a old))) rest).0 (take k (drop a old))
      → length own ≡ length (take k (drop a old))
      → take a old ++ (own ++ drop k (drop a old)) ≡ laid used (lot_steps (lot_of activities total (length old) (lot, used) bs)) old
  own_laid at h rest own left a k e g r t u v o l =
      let room : room_for (spot_at Lots lot total bs) (length old) used h.count ≡ None = ap (λ (x : Spot). room_for x (length old) used h.count) (sym e) ∙ sym r in
      let fits = room_none (spot_at Lots lot total bs) (length old) used h.count room in
      let head : head_of (spot_at Lots lot total bs) bs ≡ Ok (h, rest) = ap (λ (x : Spot). head_of x bs) (sym e) ∙ sym g in
      let n : length (take k (drop a old)) ≡ h.count = rw (u, v) (length-take-le h.count (drop used old) (omega (arith, length-drop used old, fits.1))) in
      let xs : (steps_from activities lot left (length (take k (drop a old))) rest).0 ≡ lot_steps (lot_of activities total (length old) (lot, used) bs) =
      ap (λ (j : ℕ). (steps_from activities lot j (length (take k (drop a old))) rest).0) t ∙ ap (λ (j : ℕ). (steps_from activities lot total j rest).0) n
      ∙ sym (own_steps activities total (length old) lot used bs h rest head room) in
      laid_own a k _ own old o l (omega (arith, fits.1, u, v)) ∙ ap (λ (ys : List ℕ). laid a ys old) xs
      ∙ ap (λ (j : ℕ). laid j (lot_steps (lot_of activities total (length old) (lot, used) bs)) old) u

joined_push : (xs : List (Lot × List ℕ)) (x : Lot × List ℕ) → flat_map steps_only (xs ++ x ∷ []) ≡ flat_map steps_only xs ++ steps_only x
joined_push [] x = append-nil (steps_only x)
joined_push (y ∷ xs) x = ap (λ (zs : List ℕ). steps_only y ++ zs) (joined_push xs x) ∙ sym (append_assoc (steps_only y) (flat_map steps_only xs) (steps_only x))

-- the loop over the lots
module _ (activities : List Activity) (total cells n : ℕ) (bs : List ℕ) (old_lots : List Lot) (old_steps : List ℕ) where
  pub record LotsRead (i used : ℕ) (rest : List ℕ) (lots : List Lot) (steps : List ℕ) : Type 0 where
    pub items : List (Lot × List ℕ)
    pub reached : Reached (lot_of activities total cells) next_lot (0, 0) n bs i (i, used) rest items
    pub lots_are : lots ≡ laid 0 (map lot_only items) old_lots
    pub steps_are : steps ≡ laid 0 (flat_map steps_only items) old_steps
    pub spent : length (flat_map steps_only items) ≡ used
    pub bounded : used ≤ 4096
    pub roomy : used ≤ length old_steps

  pub lots_none : LotsRead 0 0 bs old_lots old_steps
  lots_none = record { items = []; reached = reached_none (lot_of activities total cells) next_lot (0, 0) n bs; lots_are = sym (laid_none 0 old_lots); steps_are = sym (laid_none 0 old_steps); spent = refl; bounded = omega arith; roomy = omega arith }

  -- steps laid behind those that are there
  behind : (xs ys : List ℕ) (used : ℕ) (steps : List ℕ) → length xs ≡ used → used ≤ length old_steps → steps ≡ laid 0 xs old_steps → laid used ys steps ≡ laid 0 (xs ++ ys) old_steps
  behind xs ys used steps l r e =
      let h : 0 + length xs ≤ length old_steps = omega (arith, l, r) in
      let z : 0 + length xs ≡ used = zero-add (length xs) ∙ l in
      ap (λ (zs : List ℕ). laid used ys zs) e ∙ ap (λ (k : ℕ). laid k ys (laid 0 xs old_steps)) (sym z) ∙ laid_laid 0 xs ys old_steps h

  pub lots_more : (i used : ℕ) (rest : List ℕ) (lots : List Lot) (steps : List ℕ) (l : Lot) (ss rest' : List ℕ) (steps' : List ℕ) → cells ≡ length old_steps
      → LotsRead i used rest lots steps → i < n → i < length old_lots → lot_of activities total cells (i, used) rest ≡ Ok ((l, ss), rest') → steps' ≡ laid used ss steps
      → LotsRead (i + 1) (used + l.count) rest' (set lots i l) steps'
  lots_more i used rest lots steps l ss rest' steps' c r h k e s =
      let f = lot_found activities total cells i used rest ((l, ss), rest') e in
      let m : length (map lot_only r.items) ≡ i = length-map r.items lot_only ∙ r.reached.long in
      let q : 0 + length (map lot_only r.items) ≡ i = zero-add _ ∙ m in
      record {
        items = r.items ++ (l, ss) ∷ [];
        reached = reached_more (lot_of activities total cells) next_lot (0, 0) n bs i (i, used) rest r.items (l, ss) rest' r.reached h e;
        lots_are = ap (λ (zs : List Lot). set zs i l) r.lots_are ∙ ap (λ (j : ℕ). set (laid 0 (map lot_only r.items) old_lots) j l) (sym q)
            ∙ laid_more 0 (map lot_only r.items) old_lots l (omega (arith, q, k)) ∙ ap (λ (zs : List Lot). laid 0 zs old_lots) (sym (map-append lot_only r.items ((l, ss) ∷ [])));
        steps_are = s ∙ behind (flat_map steps_only r.items) ss used steps r.spent r.roomy r.steps_are ∙ ap (λ (zs : List ℕ). laid 0 zs old_steps) (sym (joined_push r.items (l, ss)));
        spent = ap length (joined_push r.items (l, ss)) ∙ length-append (flat_map steps_only r.items) ss ∙ rw (r.spent, f.long);
        bounded = f.bounded;
        roomy = omega (arith, f.roomy, c);
      }

  -- what the loop leaves where it ends
  pub record LotsLeft (answer : Result (ℕ × List ℕ) SheetFault) (lots : List Lot) (steps : List ℕ) : Type 0 where
    pub answers : lots_answer (lots_of activities total cells n bs) ≡ answer
    pub lots_hold : lots ≡ laid 0 (lots_read (lots_of activities total cells n bs)) old_lots
    pub steps_hold : steps ≡ laid 0 (steps_read (lots_of activities total cells n bs)) old_steps

  pub lots_fault : (i used : ℕ) (rest : List ℕ) (lots : List Lot) (steps : List ℕ) (ss : List ℕ) (f : SheetFault) (steps' : List ℕ)
      → LotsRead i used rest lots steps → i < n → lot_of activities total cells (i, used) rest ≡ Err (ss, f) → steps' ≡ laid used ss steps
      → LotsLeft (Err f) lots steps'
  lots_fault i used rest lots steps ss f steps' r h e s =
      let q = reached_fault (lot_of activities total cells) next_lot (0, 0) n bs i (i, used) rest r.items (ss, f) r.reached h e in
      record {
        answers = ap lots_answer q;
        lots_hold = r.lots_are ∙ ap (λ (x : List (Lot × List ℕ) × Result (List ℕ) (List ℕ × SheetFault)). laid 0 (lots_read x) old_lots) (sym q);
        steps_hold = s ∙ behind (flat_map steps_only r.items) ss used steps r.spent r.roomy r.steps_are
            ∙ ap (λ (x : List (Lot × List ℕ) × Result (List ℕ) (List ℕ × SheetFault)). laid 0 (steps_read x) old_steps) (sym q);
      }

  pub lots_all : (i used : ℕ) (rest : List ℕ) (lots : List Lot) (steps : List ℕ) → LotsRead i used rest lots steps → n ≤ i → LotsLeft (Ok (used, rest)) lots steps
  lots_all i used rest lots steps r h =
      let q = reached_all (lot_of activities total cells) next_lot (0, 0) n bs i (i, used) rest r.items r.reached h in
      record {
        answers = ap lots_answer q ∙ ap {B = Result (ℕ × List ℕ) SheetFault} (λ (k : ℕ). Ok (k, rest)) r.spent;
        lots_hold = r.lots_are ∙ ap (λ (x : List (Lot × List ℕ) × Result (List ℕ) (List ℕ × SheetFault)). laid 0 (lots_read x) old_lots) (sym q);
        steps_hold = r.steps_are ∙ ap (λ (zs : List ℕ). laid 0 zs old_steps) (sym (append-nil (flat_map steps_only r.items)))
            ∙ ap (λ (x : List (Lot × List ℕ) × Result (List ℕ) (List ℕ × SheetFault)). laid 0 (steps_read x) old_steps) (sym q);
      }
