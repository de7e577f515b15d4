-- A sheet that was read to its end: its tables, whole.
use Rattle.std.proofs.Common.{◌≡◌, ℕ, ◌≤◌, true, List, [], ◌∷◌, ◌++◌, map, length, take, drop, IfOk, Ok, Err, Result, sym, refl, ap, ◌∙◌, subst, arith, length-take}
use Rattle.std.proofs.lemmas.List.{append-nil, length-map, take_at}
use Rattle.std.proofs.lemmas.Bool.{and_from, le-leb}
use Rattle.std.specs.List.{flat_map}
use Rattle.sheet.specs.declared.records.Event.{Event}
use Rattle.sheet.specs.declared.records.Activity.{Activity}
use Rattle.sheet.specs.declared.records.Lot.{Lot}
use Rattle.sheet.specs.Rules.{Tables, tables, period_keeps, event_keeps, activity_keeps, lots_keep, well_formed}
use Rattle.sheet.specs.Laid.{laid}
use Rattle.sheet.specs.Bytes.{number_bytes, section_bytes, event_bytes, activity_bytes, lot_bytes, bytes_of}
use Rattle.sheet_read.specs.declared.fault.Section.TheVariants.{Terms, Events, Activities, Lots}
use Rattle.sheet_read.specs.declared.fault.SheetFault.{SheetFault}
use Rattle.sheet_read.specs.declared.read.Extent.{Extent}
use Rattle.sheet_read.specs.Records.{period_of, event_of, activity_of}
use Rattle.sheet_read.specs.Numbers.{then}
use Rattle.sheet_read.specs.Sections.{spot_at, in_sheet, count_of, section_of}
use Rattle.sheet_read.specs.Lots.{lots_of, lot_of, next_lot, lots_answer, lots_read, steps_read, lot_only, steps_only}
use Rattle.sheet_read.specs.Sheets.{Room, Reading, LotsReading, closed, extent, lots_section_from, lots_section_of, lots_then, activities_then, events_then, terms_of, terms_then, reading_of, read_tables, AcceptedSheet}
use Rattle.sheet_read.proofs.Running.{run_length}
use Rattle.sheet_read.proofs.Faithful.{Bytes, then_ok, period_faithful, event_faithful, activity_faithful}
use Rattle.sheet_read.proofs.Counted.{in_sheet_ok}
use Rattle.sheet_read.proofs.Accepted.{CountFound, count_faithful, SectionFound, section_faithful, lots_faithful}

-- the tables of a reading
abbrev pub of_reading : ℕ → Reading → Tables
of_reading period r = tables period r.events r.activities r.lots r.steps

-- what is owed of a reading that ends well
pub record Accepted (bs : List ℕ) (r : Reading) (x : Extent) : Type 0 where
  pub events_long : length r.events ≡ x.events
  pub activities_long : length r.activities ≡ x.activities
  pub lots_long : length r.lots ≡ x.lots
  pub steps_long : length r.steps ≡ x.steps
  pub formed : well_formed (of_reading x.period r) ≡ true
  pub back : bytes_of (of_reading x.period r) ≡ bs

-- ---- the section of the lots

abbrev LotsRun : Type 0
LotsRun = List (Lot × List ℕ) × Result (List ℕ) (List ℕ × SheetFault)

closed_ok : (total n : ℕ) (y : ℕ × List ℕ) (k : ℕ) → closed total n y ≡ Ok k → y ≡ (k, [])
closed_ok total n (j, []) k e = let q : j ≡ k = cc in ap {B = ℕ × List ℕ} (λ (i : ℕ). (i, [])) q
closed_ok total n (j, b ∷ rest) k e = cc

answered : (l : LotsRun) (k : ℕ) → lots_answer l ≡ Ok (k, []) → (l ≡ (l.0, Ok [])) × (length (flat_map steps_only l.0) ≡ k)
answered (ls, Ok rest) k e =
    let q : ◌≡◌ {A = ℕ × List ℕ} (length (flat_map steps_only ls), rest) (k, []) = cc in
    (ap {B = List (Lot × List ℕ) × Result (List ℕ) (List ℕ × SheetFault)} (λ (y : ℕ × List ℕ). (ls, Ok y.1)) q, ap (λ (y : ℕ × List ℕ). y.0) q)
answered (ls, Err f) k e = cc

pub record LotsWhole (acts : List Activity) (bs : List ℕ) (r : LotsReading) (q : ℕ × ℕ) : Type 0 where
  pub bytes : bs ≡ section_bytes (lot_bytes r.steps) r.lots
  pub rule : lots_keep acts 0 r.lots r.steps ≡ true
  pub lots_long : length r.lots ≡ q.0
  pub steps_long : length r.steps ≡ q.1
  pub few_lots : q.0 ≤ 512
  pub few_steps : q.1 ≤ 4096

module _ (acts : List Activity) (total lot_cells cells : ℕ) (bs : List ℕ) (h : Bytes bs) where
  -- by the count and the run
  ran_whole : (n : ℕ) (start : List ℕ) (items : List (Lot × List ℕ)) (k : ℕ) → CountFound Lots lot_cells bs n start → lots_of acts total cells n start ≡ (items, Ok []) → length (flat_map steps_only items) ≡ k
      → LotsWhole acts bs (record { lots = lots_read (items, Ok []); steps = steps_read (items, Ok []); answer = Ok (n, k) }) (n, k)
  ran_whole n start items k c e l =
      let f = lots_faithful acts total cells (0, 0) n [] start items [] c.left refl (omega arith) e in
      let m : length (map lot_only items) ≡ n = length-map items lot_only ∙ run_length (lot_of acts total cells) next_lot (0, 0) n start items [] e in
      let z : flat_map steps_only items ++ [] ≡ flat_map steps_only items = append-nil (flat_map steps_only items) in
      record {
        bytes = c.bytes ∙ ap (λ (j : ℕ). number_bytes j ++ start) (sym m)
            ∙ ap (λ (ys : List ℕ). number_bytes (length (map lot_only items)) ++ ys) (f.bytes ∙ append-nil _ ∙ ap (λ (ys : List ℕ). flat_map (lot_bytes ys) (map lot_only items)) (sym z));
        rule = ap (lots_keep acts 0 (map lot_only items)) z ∙ f.rule;
        lots_long = m;
        steps_long = ap length z ∙ l;
        few_lots = c.high;
        few_steps = omega (arith, f.bounded, l);
      }

  from_run : (n : ℕ) (start : List ℕ) (q : ℕ × ℕ) → CountFound Lots lot_cells bs n start → then (lots_answer (lots_of acts total cells n start)) (λ y. then (closed total n y) (λ ss. Ok (n, ss))) ≡ Ok q
      → LotsWhole acts bs (lots_section_from acts total cells (Ok (n, start))) q
  from_run n start q c e =
      let a = then_ok (lots_answer (lots_of acts total cells n start)) (λ (y : ℕ × List ℕ). then (closed total n y) (λ ss. Ok (n, ss))) q e in
      let b = then_ok (closed total n a.0) (λ (ss : ℕ). Ok (n, ss)) q a.2 in
      let y = closed_ok total n a.0 b.0 b.1 in
      let w = answered (lots_of acts total cells n start) b.0 (a.1 ∙ ap {B = Result (ℕ × List ℕ) SheetFault} (λ (z : ℕ × List ℕ). Ok z) y) in
      let p : ◌≡◌ {A = ℕ × ℕ} (n, b.0) q = let o = b.2 in cc in
      let r = ran_whole n start (lots_of acts total cells n start).0 b.0 c w.0 w.1 in
      subst (λ (z : ℕ × ℕ). LotsWhole acts bs (lots_section_from acts total cells (Ok (n, start))) z) p
      (subst (λ (z : List (Lot × List ℕ) × Result (List ℕ) (List ℕ × SheetFault)). LotsWhole acts bs (record { lots = lots_read z; steps = steps_read z; answer = (lots_section_from acts total cells (Ok (n, start))).answer }) (n, b.0)) (sym w.0)
      (record { bytes = r.bytes; rule = r.rule; lots_long = r.lots_long; steps_long = r.steps_long; few_lots = r.few_lots; few_steps = r.few_steps }))

  from_count : (o : Result (ℕ × List ℕ) SheetFault) (q : ℕ × ℕ) → count_of Lots total lot_cells bs ≡ o → (lots_section_from acts total cells o).answer ≡ Ok q → LotsWhole acts bs (lots_section_from acts total cells o) q
  from_count (Err f) q c e = cc
  from_count (Ok p) q c e = from_run p.0 p.1 q (count_faithful Lots total lot_cells bs p.0 p.1 h c) e

  pub lots_whole : (q : ℕ × ℕ) → (lots_section_of acts total lot_cells cells bs).answer ≡ Ok q → LotsWhole acts bs (lots_section_of acts total lot_cells cells bs) q
  lots_whole q e = from_count (count_of Lots total lot_cells bs) q refl e

-- ---- the whole sheet

terms_bytes : (bs mid rest : List ℕ) (n period : ℕ) → bs ≡ number_bytes n ++ mid → 1 ≤ n → n ≤ 1 → mid ≡ number_bytes period ++ rest → bs ≡ section_bytes number_bytes (period ∷ []) ++ rest
terms_bytes bs mid rest n period e l h f =
    let one : n ≡ 1 = omega arith in
    e ∙ ap (λ (k : ℕ). number_bytes k ++ mid) one ∙ ap (λ (ys : List ℕ). number_bytes 1 ++ ys) f

joined_four : (bs a b c d r s t : List ℕ) → bs ≡ a ++ r → r ≡ b ++ s → s ≡ c ++ t → t ≡ d → bs ≡ a ++ (b ++ (c ++ d))
joined_four bs a b c d r s t e f g h = e ∙ ap (λ (ys : List ℕ). a ++ ys) (f ∙ ap (λ (ys : List ℕ). b ++ ys) (g ∙ ap (λ (ys : List ℕ). c ++ ys) h))

module _ (room : Room) (bs : List ℕ) (h : Bytes bs) (x : Extent) where
  -- by each section's reading
  from_sections : (period : ℕ) (rest rest₂ rest₃ : List ℕ) (es : List Event) (e : ℕ) (acts : List Activity) (a : ℕ) (r : LotsReading) (q : ℕ × ℕ)
      → period_keeps period ≡ true → bs ≡ section_bytes number_bytes (period ∷ []) ++ rest → SectionFound Events event_bytes (event_keeps period) rest e rest₂ es
      → SectionFound Activities activity_bytes (activity_keeps es) rest₂ a rest₃ acts → LotsWhole acts rest₃ r q → extent period e a q ≡ x → Accepted bs (lots_then period es e acts a r) x
  from_sections period rest rest₂ rest₃ es e acts a r q p t f g l i =
      let sized : well_formed (tables period es acts r.lots r.steps) ≡ true =
      and_from _ _ p (and_from _ _
      (and_from _ _ (and_from _ _ (le-leb 1 (length es) (omega (arith, f.long, f.low))) (le-leb (length es) 512 (omega (arith, f.long, f.high))))
      (and_from _ _ (le-leb (length acts) 1024 (omega (arith, g.long, g.high)))
      (and_from _ _ (le-leb (length r.lots) 512 (omega (arith, l.lots_long, l.few_lots))) (le-leb (length r.steps) 4096 (omega (arith, l.steps_long, l.few_steps))))))
      (and_from _ _ f.rule (and_from _ _ g.rule l.rule))) in
      subst (λ (y : Extent). Accepted bs (lots_then period es e acts a r) y) i
      (record {
        events_long = f.long;
        activities_long = g.long;
        lots_long = l.lots_long;
        steps_long = l.steps_long;
        formed = sized;
        back = sym (joined_four bs (section_bytes number_bytes (period ∷ [])) (section_bytes event_bytes es) (section_bytes activity_bytes acts) _ rest rest₂ rest₃ t f.bytes g.bytes l.bytes);
      })

  from_lots : (period : ℕ) (rest rest₂ rest₃ : List ℕ) (es : List Event) (e : ℕ) (acts : List Activity) (a : ℕ)
      → period_keeps period ≡ true → bs ≡ section_bytes number_bytes (period ∷ []) ++ rest → SectionFound Events event_bytes (event_keeps period) rest e rest₂ es
      → SectionFound Activities activity_bytes (activity_keeps es) rest₂ a rest₃ acts
      → (lots_then period es e acts a (lots_section_of acts (length bs) room.lots room.steps rest₃)).answer ≡ Ok x
      → Accepted bs (lots_then period es e acts a (lots_section_of acts (length bs) room.lots room.steps rest₃)) x
  from_lots period rest rest₂ rest₃ es e acts a p t f g o =
      let s = lots_section_of acts (length bs) room.lots room.steps rest₃ in
      let k = then_ok s.answer (λ (q : ℕ × ℕ). Ok (extent period e a q)) x o in
      from_sections period rest rest₂ rest₃ es e acts a s k.0 p t f g (lots_whole acts (length bs) room.lots room.steps rest₃ g.left k.0 k.1) (let w = k.2 in cc)

  from_activities : (period : ℕ) (rest rest₂ : List ℕ) (es : List Event) (e : ℕ) (o : Result (ℕ × List ℕ) SheetFault)
      → period_keeps period ≡ true → bs ≡ section_bytes number_bytes (period ∷ []) ++ rest → SectionFound Events event_bytes (event_keeps period) rest e rest₂ es
      → (section_of (activity_of es) Activities (length bs) room.activities rest₂).1 ≡ o
      → (activities_then (length bs) period es e room ((section_of (activity_of es) Activities (length bs) room.activities rest₂).0, o)).answer ≡ Ok x
      → Accepted bs (activities_then (length bs) period es e room ((section_of (activity_of es) Activities (length bs) room.activities rest₂).0, o)) x
  from_activities period rest rest₂ es e (Err f) p t d s k = cc
  from_activities period rest rest₂ es e (Ok y) p t d s k =
      let g = section_faithful (activity_of es) activity_bytes (activity_keeps es) (activity_faithful es) Activities (length bs) room.activities rest₂ y.0 y.1 d.left s in
      from_lots period rest rest₂ y.1 es e _ y.0 p t d g k

  from_events : (period : ℕ) (rest : List ℕ) (o : Result (ℕ × List ℕ) SheetFault) → period_keeps period ≡ true → bs ≡ section_bytes number_bytes (period ∷ []) ++ rest → Bytes rest
      → (section_of (event_of period) Events (length bs) room.events rest).1 ≡ o
      → (events_then (length bs) period room ((section_of (event_of period) Events (length bs) room.events rest).0, o)).answer ≡ Ok x
      → Accepted bs (events_then (length bs) period room ((section_of (event_of period) Events (length bs) room.events rest).0, o)) x
  from_events period rest (Err f) p t d s k = cc
  from_events period rest (Ok y) p t d s k =
      let g = section_faithful (event_of period) event_bytes (event_keeps period) (event_faithful period) Events (length bs) room.events rest y.0 y.1 d s in
      from_activities period rest y.1 _ y.0 _ p t g refl k

  from_terms : (o : Result (ℕ × List ℕ) SheetFault) → terms_of (length bs) bs ≡ o → (terms_then (length bs) room o).answer ≡ Ok x → Accepted bs (terms_then (length bs) room o) x
  from_terms (Err f) s k = cc
  from_terms (Ok y) s k =
      let a = then_ok (count_of Terms (length bs) 1 bs) (λ (p : ℕ × List ℕ). in_sheet (period_of (spot_at Terms 0 (length bs) p.1) p.1)) y s in
      let c = count_faithful Terms (length bs) 1 bs a.0.0 a.0.1 h a.1 in
      let p = period_faithful (spot_at Terms 0 (length bs) a.0.1) a.0.1 y c.left (in_sheet_ok (period_of (spot_at Terms 0 (length bs) a.0.1) a.0.1) y a.2) in
      from_events y.0 y.1 _ p.rule (terms_bytes bs a.0.1 y.1 a.0.0 y.0 c.bytes c.low c.high p.bytes) p.left refl k

  pub accepted : (reading_of room bs).answer ≡ Ok x → Accepted bs (reading_of room bs) x
  accepted k = from_terms (terms_of (length bs) bs) refl k

-- ---- as the program has it: tables whose fronts hold what was read

-- how the caller's tables stand to the reading
pub record Holds (r : Reading) (es es₀ : List Event) (acts acts₀ : List Activity) (ls ls₀ : List Lot) (ss ss₀ : List ℕ) : Type 0 where
  pub events : es ≡ laid 0 r.events es₀
  pub activities : acts ≡ laid 0 r.activities acts₀
  pub lots : ls ≡ laid 0 r.lots ls₀
  pub steps : ss ≡ laid 0 r.steps ss₀

front : {A : Type 0} (n : ℕ) (table new old : List A) → table ≡ laid 0 new old → length new ≡ n → take n table ≡ new
front n table new old e l = ap (take n) e ∙ take_at new (drop (length new) old) n l

pub fronts : (bs : List ℕ) (r : Reading) (x : Extent) (es es₀ : List Event) (acts acts₀ : List Activity) (ls ls₀ : List Lot) (ss ss₀ : List ℕ)
    → Holds r es es₀ acts acts₀ ls ls₀ ss ss₀ → Accepted bs r x → read_tables x es acts ls ss ≡ of_reading x.period r
fronts bs r x es es₀ acts acts₀ ls ls₀ ss ss₀ h a =
    ap (λ (ys : List Event). tables x.period ys (take x.activities acts) (take x.lots ls) (take x.steps ss)) (front x.events es r.events es₀ h.events a.events_long)
    ∙ ap (λ (ys : List Activity). tables x.period r.events ys (take x.lots ls) (take x.steps ss)) (front x.activities acts r.activities acts₀ h.activities a.activities_long)
    ∙ ap (λ (ys : List Lot). tables x.period r.events r.activities ys (take x.steps ss)) (front x.lots ls r.lots ls₀ h.lots a.lots_long)
    ∙ ap (λ (ys : List ℕ). tables x.period r.events r.activities r.lots ys) (front x.steps ss r.steps ss₀ h.steps a.steps_long)

within : {A : Type 0} (n : ℕ) (table new : List A) → take n table ≡ new → length new ≡ n → n ≤ length table
within n table new e l = let m : length (take n table) ≡ n = ap length e ∙ l in omega (arith, m, length-take n table)

pub accepted_sheet : (room : Room) (bs : List ℕ) (x : Extent) (es es₀ : List Event) (acts acts₀ : List Activity) (ls ls₀ : List Lot) (ss ss₀ : List ℕ)
    → Bytes bs → Holds (reading_of room bs) es es₀ acts acts₀ ls ls₀ ss ss₀ → (reading_of room bs).answer ≡ Ok x → AcceptedSheet bs x es acts ls ss
accepted_sheet room bs x es es₀ acts acts₀ ls ls₀ ss ss₀ b h e =
    let a = accepted room bs b x e in
    let r = reading_of room bs in
    let f = fronts bs r x es es₀ acts acts₀ ls ls₀ ss ss₀ h a in
    record {
      fits = (
        (
          within x.events es r.events (front x.events es r.events es₀ h.events a.events_long) a.events_long,
          within x.activities acts r.activities (front x.activities acts r.activities acts₀ h.activities a.activities_long) a.activities_long,
        ),
        (
          within x.lots ls r.lots (front x.lots ls r.lots ls₀ h.lots a.lots_long) a.lots_long,
          within x.steps ss r.steps (front x.steps ss r.steps ss₀ h.steps a.steps_long) a.steps_long,
        ),
      );
      kept = ap well_formed f ∙ a.formed;
      written_back = ap bytes_of f ∙ a.back;
    }

-- where an answer is Ok
pub made_if : {A E : Type 0} (P : A → Type 0) (r : Result A E) → ((x : A) → r ≡ Ok x → P x) → IfOk r P
made_if P (Ok x) f = f x refl
made_if P (Err e) f = tt
