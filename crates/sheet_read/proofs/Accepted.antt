-- An accepted sheet: its tables are well formed, and its bytes are just those that the tables are written as.
use Rattle.std.proofs.Common.{◌≡◌, ℕ, zero, suc, ◌+◌, ◌≤◌, Bool, true, false, cond, ltb, List, [], ◌∷◌, ◌++◌, map, length, take, drop, None, Ok, Err, Result, sym, refl, ap, ◌∙◌, subst, arith}
use Rattle.std.proofs.lemmas.List.{append_assoc, length-append, take_at, drop_at}
use Rattle.std.proofs.lemmas.Bool.{and_from, le-leb, eq-eqb, ltb-false}
use Rattle.std.specs.List.{flat_map}
use Rattle.sheet.specs.declared.records.Activity.{Activity}
use Rattle.sheet.specs.declared.records.Lot.{Lot}
use Rattle.sheet.specs.Rules.{path_keeps, step_keeps, lot_keeps, lots_keep, stretch, every}
use Rattle.sheet.specs.Bytes.{number_bytes, section_bytes, lot_bytes}
use Rattle.sheet_read.specs.declared.fault.Section.{Section}
use Rattle.sheet_read.specs.declared.fault.Section.TheVariants.{Lots}
use Rattle.sheet_read.specs.declared.fault.Spot.{Spot}
use Rattle.sheet_read.specs.declared.fault.ReaderFault.{ReaderFault}
use Rattle.sheet_read.specs.declared.fault.RecordFault.{RecordFault}
use Rattle.sheet_read.specs.declared.fault.SheetFault.{SheetFault}
use Rattle.sheet_read.specs.declared.fault.SheetFault.TheVariants.{Bounds, Table}
use Rattle.sheet_read.specs.Numbers.{run, next_number, number_of}
use Rattle.sheet_read.specs.Sections.{spot_at, placed, fewest, most, counted, count_of, at_count, section_of}
use Rattle.sheet_read.specs.Lots.{lot_step, step_on, lot_made, lot_of, next_lot, lot_only, steps_only}
use Rattle.sheet_read.proofs.Running.{first_turn}
use Rattle.sheet_read.proofs.Faithful.{Bytes, Found, then_ok, number_faithful, run_faithful, head_bytes, head_faithful, step_faithful}
use Rattle.sheet_read.proofs.Lotting.{lot_found}
use Rattle.sheet_read.proofs.Counted.{section_whole}

-- the steps of a lot
steps_faithful : (activities : List Activity) (lot total : ℕ) (n : ℕ) (bs steps rest : List ℕ) → Bytes bs → run (lot_step activities lot total) (step_on activities) None n bs ≡ (steps, Ok rest)
    → Found bs (flat_map number_bytes steps) rest (path_keeps activities None steps)
steps_faithful activities lot total =
    run_faithful (lot_step activities lot total) (step_on activities) number_bytes (step_keeps activities) (path_keeps activities) (λ s. refl) (λ s x xs. refl)
    (λ s bs p. step_faithful activities s (spot_at Lots lot total bs) bs p) None

-- a section's count
pub record CountFound (section : Section) (cells : ℕ) (bs : List ℕ) (n : ℕ) (rest : List ℕ) : Type 0 where
  pub bytes : bs ≡ number_bytes n ++ rest
  pub left : Bytes rest
  pub low : fewest section ≤ n
  pub high : n ≤ most section
  pub roomy : n ≤ cells

at_count_ok : {A : Type 0} (r : Result A ReaderFault) (x : A) → at_count r ≡ Ok x → r ≡ Ok x
at_count_ok (Ok y) x h = cc
at_count_ok (Err e) x h = cc

counted_ok : (section : Section) (cells : ℕ) (at : Spot) (p q : ℕ × List ℕ) → counted section cells at p ≡ Ok q → (p ≡ q) × (fewest section ≤ p.0) × (p.0 ≤ most section) × (p.0 ≤ cells)
counted_ok section cells at p q = tested (ltb p.0 (fewest section)) (ltb (most section) p.0) (ltb cells p.0) refl refl refl
  where
    tested : (a b c : Bool) → ltb p.0 (fewest section) ≡ a → ltb (most section) p.0 ≡ b → ltb cells p.0 ≡ c
        → cond a (Err (Bounds at)) (cond b (Err (Bounds at)) (cond c (Err (Table at)) (Ok p))) ≡ Ok q → (p ≡ q) × (fewest section ≤ p.0) × (p.0 ≤ most section) × (p.0 ≤ cells)
    tested true b c x y z e = cc
    tested false true c x y z e = cc
    tested false false true x y z e = cc
    tested false false false x y z e = (cc, ltb-false p.0 (fewest section) x, ltb-false (most section) p.0 y, ltb-false cells p.0 z)

pub count_faithful : (section : Section) (total cells : ℕ) (bs : List ℕ) (n : ℕ) (rest : List ℕ) → Bytes bs → count_of section total cells bs ≡ Ok (n, rest) → CountFound section cells bs n rest
count_faithful section total cells bs n rest h e =
    let at = spot_at section 0 total bs in
    let a = then_ok (at_count (number_of at bs)) (counted section cells at) (n, rest) e in
    let f = number_faithful at bs a.0 h (at_count_ok (number_of at bs) a.0 a.1) in
    let c = counted_ok section cells at a.0 (n, rest) a.2 in
    subst (λ (p : ℕ × List ℕ). CountFound section cells bs p.0 p.1) c.0 (record { bytes = f.0; left = f.1; low = c.1; high = c.2; roomy = c.3 })

-- a section of records that are read one by one
pub record SectionFound {A : Type 0} (section : Section) (each_bytes : A → List ℕ) (keeps : A → Bool) (bs : List ℕ) (n : ℕ) (rest : List ℕ) (xs : List A) : Type 0 where
  pub bytes : bs ≡ section_bytes each_bytes xs ++ rest
  pub left : Bytes rest
  pub rule : every keeps xs ≡ true
  pub long : length xs ≡ n
  pub low : fewest section ≤ n
  pub high : n ≤ most section

module _ {A : Type 0} (read : Spot → List ℕ → Result (A × List ℕ) RecordFault) (each_bytes : A → List ℕ) (keeps : A → Bool)
    (each : (at : Spot) (bs : List ℕ) (p : A × List ℕ) → Bytes bs → read at bs ≡ Ok p → Found bs (each_bytes p.0) p.1 (keeps p.0)) where
  pub section_faithful : (section : Section) (total cells : ℕ) (bs : List ℕ) (n : ℕ) (rest : List ℕ) → Bytes bs → (section_of read section total cells bs).1 ≡ Ok (n, rest)
      → SectionFound section each_bytes keeps bs n rest (section_of read section total cells bs).0
  section_faithful section total cells bs n rest h e =
      let w = section_whole read section total (count_of section total cells bs) n rest e in
      let c = count_faithful section total cells bs n w.start h w.counted in
      let f = run_faithful (placed read section total) next_number each_bytes (λ i. keeps) (λ i. every keeps) (λ i. refl) (λ i x xs. refl)
      (λ i cs p. each (spot_at section i total cs) cs p) 0 n w.start (section_of read section total cells bs).0 rest c.left w.ran in
      record {
        bytes = c.bytes ∙ ap (λ (k : ℕ). number_bytes k ++ w.start) (sym w.long) ∙ ap (λ (ys : List ℕ). number_bytes (length (section_of read section total cells bs).0) ++ ys) f.bytes;
        left = f.left;
        rule = f.rule;
        long = w.long;
        low = c.low;
        high = c.high;
      }

-- ---- the lots

-- a lot's bytes, by the steps that were read with it
abbrev pub item_bytes : Lot × List ℕ → List ℕ
item_bytes x = head_bytes x.0.class x.0.parcels x.0.count ++ flat_map number_bytes x.1

pub record LotKept (activities : List Activity) (used : ℕ) (bs : List ℕ) (x : Lot × List ℕ) (rest : List ℕ) : Type 0 where
  pub bytes : bs ≡ item_bytes x ++ rest
  pub left : Bytes rest
  pub rule : lot_keeps x.0.parcels x.0.count ≡ true
  pub path : path_keeps activities None x.1 ≡ true
  pub first : x.0.first ≡ used
  pub long : length x.1 ≡ x.0.count
  pub bounded : used + x.0.count ≤ 4096

lot_faithful : (activities : List Activity) (total cells lot used : ℕ) (bs : List ℕ) (x : Lot × List ℕ) (rest : List ℕ) → Bytes bs → lot_of activities total cells (lot, used) bs ≡ Ok (x, rest) → LotKept activities used bs x rest
lot_faithful activities total cells lot used bs x rest h e =
    let f = lot_found activities total cells lot used bs (x, rest) e in
    let a = head_faithful (spot_at Lots lot total bs) bs f.head h f.headed in
    let s = steps_faithful activities lot total x.0.count f.head.1 x.1 rest a.left f.stepped in
    let k : lot_made used f.head.0 ≡ x.0 = sym f.made in
    let b : bs ≡ head_bytes x.0.class x.0.parcels x.0.count ++ f.head.1 = a.bytes ∙ ap (λ (l : Lot). head_bytes l.class l.parcels l.count ++ f.head.1) k in
    record {
      bytes = b ∙ ap (λ (ys : List ℕ). head_bytes x.0.class x.0.parcels x.0.count ++ ys) s.bytes ∙ sym (append_assoc (head_bytes x.0.class x.0.parcels x.0.count) (flat_map number_bytes x.1) rest);
      left = s.left;
      rule = ap (λ (l : Lot). lot_keeps l.parcels l.count) (sym k) ∙ a.rule;
      path = s.rule;
      first = ap (λ (l : Lot). l.first) (sym k);
      long = f.long;
      bounded = f.bounded;
    }

-- a lot's stretch of all the steps is what was read with it
stretched : (l : Lot) (before steps behind : List ℕ) → l.first ≡ length before → length steps ≡ l.count → stretch l (before ++ (steps ++ behind)) ≡ steps
stretched l before steps behind f n = ap (take l.count) (drop_at before (steps ++ behind) l.first (sym f)) ∙ take_at steps behind l.count n

pub record LotsKept (activities : List Activity) (used : ℕ) (before : List ℕ) (bs : List ℕ) (items : List (Lot × List ℕ)) (rest : List ℕ) : Type 0 where
  pub bytes : bs ≡ flat_map (lot_bytes (before ++ flat_map steps_only items)) (map lot_only items) ++ rest
  pub left : Bytes rest
  pub rule : lots_keep activities used (map lot_only items) (flat_map steps_only items) ≡ true
  pub bounded : used + length (flat_map steps_only items) ≤ 4096

module _ (activities : List Activity) (total cells : ℕ) where
  -- one lot before others
  lots_cons : (used : ℕ) (before : List ℕ) (bs mid rest : List ℕ) (x : Lot × List ℕ) (items : List (Lot × List ℕ)) → length before ≡ used
      → LotKept activities used bs x mid → LotsKept activities (used + x.0.count) (before ++ x.1) mid items rest → LotsKept activities used before bs (x ∷ items) rest
  lots_cons used before bs mid rest x items n a b =
      let steps = flat_map steps_only items in
      let whole : before ++ (x.1 ++ steps) ≡ (before ++ x.1) ++ steps = sym (append_assoc before x.1 steps) in
      let own : stretch x.0 (before ++ (x.1 ++ steps)) ≡ x.1 = stretched x.0 before x.1 steps (a.first ∙ sym n) a.long in
      let mine : item_bytes x ≡ lot_bytes (before ++ (x.1 ++ steps)) x.0 =
      ap (λ (ys : List ℕ). head_bytes x.0.class x.0.parcels x.0.count ++ flat_map number_bytes ys) (sym own) in
      let others : mid ≡ flat_map (lot_bytes (before ++ (x.1 ++ steps))) (map lot_only items) ++ rest =
      b.bytes ∙ ap (λ (ys : List ℕ). flat_map (lot_bytes ys) (map lot_only items) ++ rest) (sym whole) in
      let t : take x.0.count (x.1 ++ steps) ≡ x.1 = take_at x.1 steps x.0.count a.long in
      let d : drop x.0.count (x.1 ++ steps) ≡ steps = drop_at x.1 steps x.0.count a.long in
      let l : length (x.1 ++ steps) ≡ x.0.count + length steps = length-append x.1 steps ∙ ap (λ (k : ℕ). k + length steps) a.long in
      record {
        bytes = a.bytes ∙ ap (λ (ys : List ℕ). ys ++ mid) mine ∙ ap (λ (ys : List ℕ). lot_bytes (before ++ (x.1 ++ steps)) x.0 ++ ys) others
            ∙ sym (append_assoc (lot_bytes (before ++ (x.1 ++ steps)) x.0) _ rest);
        left = b.left;
        rule = and_from _ _ a.rule (and_from _ _ (eq-eqb x.0.first used a.first) (and_from _ _ (le-leb x.0.count (length (x.1 ++ steps)) (omega (arith, l)))
            (and_from _ _ (ap (path_keeps activities None) t ∙ a.path) (ap (lots_keep activities (used + x.0.count) (map lot_only items)) d ∙ b.rule))));
        bounded = omega (arith, l, b.bounded);
      }

  pub lots_faithful : (s : ℕ × ℕ) (n : ℕ) (before bs : List ℕ) (items : List (Lot × List ℕ)) (rest : List ℕ) → Bytes bs → length before ≡ s.1 → s.1 ≤ 4096
      → run (lot_of activities total cells) next_lot s n bs ≡ (items, Ok rest) → LotsKept activities s.1 before bs items rest
  lots_faithful s zero before bs items rest h m k e =
      let x : [] ≡ items = ap (λ (r : List (Lot × List ℕ) × Result (List ℕ) (List ℕ × SheetFault)). r.0) e in
      let q : ◌≡◌ {A = Result (List ℕ) (List ℕ × SheetFault)} (Ok bs) (Ok rest) = ap (λ (r : List (Lot × List ℕ) × Result (List ℕ) (List ℕ × SheetFault)). r.1) e in
      let r : bs ≡ rest = cc in
      subst (λ (ys : List (Lot × List ℕ)). LotsKept activities s.1 before bs ys rest) x (record { bytes = r; left = subst Bytes r h; rule = refl; bounded = omega (arith, k) })
  lots_faithful s (suc n) before bs items rest h m k e =
      let f = first_turn (lot_of activities total cells) next_lot s n bs items rest e in
      let a = lot_faithful activities total cells s.0 s.1 bs f.item f.mid h f.reads in
      let l : length (before ++ f.item.1) ≡ s.1 + f.item.0.count = length-append before f.item.1 ∙ rw (m, a.long) in
      let b = lots_faithful (next_lot s f.item) n (before ++ f.item.1) f.mid f.others rest a.left l a.bounded f.goes_on in
      subst (λ (ys : List (Lot × List ℕ)). LotsKept activities s.1 before bs ys rest) (sym f.splits) (lots_cons s.1 before bs f.mid rest f.item f.others m a b)
