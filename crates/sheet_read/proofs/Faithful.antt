-- What was read was there: the bytes in front are those of the record, and the record keeps its rule.
use Rattle.std.proofs.Common.{◌≡◌, ℕ, zero, suc, ◌+◌, ◌*◌, ◌/◌, ◌%◌, ◌<◌, Bool, true, false, ◌&&◌, List, [], ◌∷◌, ◌++◌, length, slice_index, Some, None, Ok, Err, Option, Result, sym, refl, ap, ◌∙◌, subst, arith}
use Rattle.std.proofs.lemmas.List.{append_assoc}
use Rattle.std.proofs.lemmas.Bool.{and_from}
use Rattle.std.specs.List.{flat_map, AllByRecursion as All}
use Rattle.sheet.specs.declared.records.Side.{Side}
use Rattle.sheet.specs.declared.records.Kind.{Kind}
use Rattle.sheet.specs.declared.records.Class.{Class}
use Rattle.sheet.specs.declared.records.Event.{Event}
use Rattle.sheet.specs.declared.records.Activity.{Activity}
use Rattle.sheet.specs.Rules.{period_keeps, event_keeps, activity_keeps, lot_keeps, step_keeps}
use Rattle.sheet.specs.Bytes.{number_bytes, four_bytes, side_number, kind_number, class_number, event_bytes, activity_bytes}
use Rattle.sheet_read.specs.declared.fault.Spot.{Spot}
use Rattle.sheet_read.specs.declared.fault.ReaderFault.{ReaderFault}
use Rattle.sheet_read.specs.declared.«record».LotHead.{LotHead}
use Rattle.sheet_read.specs.Numbers.{then, run, next_number, number_of, number_in, numbers_run, whole_run, numbers_of}
use Rattle.sheet.specs.Sorts.{side_of, kind_of, class_of}
use Rattle.sheet_read.specs.Records.{in_record, passed, ruled, record_of, period_from, period_of, event_with, event_from, event_of, activity_with, activity_from, activity_of, head_with, head_from, head_of, step_from, step_of}
use Rattle.sheet_read.proofs.Running.{first_turn, run_length}

abbrev pub Bytes : List ℕ → Type 0
Bytes = All (λ b. b < 256)

-- of x, then `rest`: what a reading found in `bs`
pub record Found (bs : List ℕ) (front : List ℕ) (rest : List ℕ) (keeps : Bool) : Type 0 where
  pub bytes : bs ≡ front ++ rest
  pub left : Bytes rest
  pub rule : keeps ≡ true

-- ---- answers taken apart

pub then_ok : {A B E : Type 0} (r : Result A E) (f : A → Result B E) (y : B) → then r f ≡ Ok y → (x : A) × (r ≡ Ok x) × (f x ≡ Ok y)
then_ok (Ok x) f y h = (x, refl, h)
then_ok (Err e) f y h = cc

pub in_record_ok : {A : Type 0} (r : Result A ReaderFault) (x : A) → in_record r ≡ Ok x → r ≡ Ok x
in_record_ok (Ok y) x h = cc
in_record_ok (Err e) x h = cc

ok_pair : {A B E : Type 0} (a : A) (b : B) (p : A × B) → ◌≡◌ {A = Result (A × B) E} (Ok (a, b)) (Ok p) → (a, b) ≡ p
ok_pair a b p h = cc

-- ---- numbers

pub number_faithful : (at : Spot) (bs : List ℕ) (p : ℕ × List ℕ) → Bytes bs → number_of at bs ≡ Ok p → (bs ≡ number_bytes p.0 ++ p.1) × Bytes p.1
number_faithful at [] p h e = cc
number_faithful at (b ∷ []) p h e = cc
number_faithful at (a ∷ b ∷ rest) p h e =
    let q : (a * 256 + b, rest) ≡ p = ok_pair (a * 256 + b) rest p e in
    let hi : (a * 256 + b) / 256 ≡ a = omega (arith, h.1.0) in
    let lo : (a * 256 + b) % 256 ≡ b = omega (arith, h.1.0) in
    (rw (← q, hi, lo), rw (← q) h.1.1)

-- ---- one after another

-- one reading after another: the bytes are those of what was read, and the whole keeps its rule
module _ {A S E : Type 0} (read : S → List ℕ → Result (A × List ℕ) E) (next : S → A → S) (each_bytes : A → List ℕ) (keeps : S → A → Bool) (all_keep : S → List A → Bool)
    (none : (s : S) → all_keep s [] ≡ true) (more : (s : S) (x : A) (xs : List A) → all_keep s (x ∷ xs) ≡ (keeps s x && all_keep (next s x) xs))
    (each : (s : S) (bs : List ℕ) (p : A × List ℕ) → Bytes bs → read s bs ≡ Ok p → Found bs (each_bytes p.0) p.1 (keeps s p.0)) where
  pub run_faithful : (s : S) (n : ℕ) (bs : List ℕ) (xs : List A) (rest : List ℕ) → Bytes bs → run read next s n bs ≡ (xs, Ok rest) → Found bs (flat_map each_bytes xs) rest (all_keep s xs)
  run_faithful s zero bs xs rest h e =
      let x : [] ≡ xs = ap (λ (r : List A × Result (List ℕ) E). r.0) e in
      let r : bs ≡ rest = let q : ◌≡◌ {A = Result (List ℕ) E} (Ok bs) (Ok rest) = ap (λ (r : List A × Result (List ℕ) E). r.1) e in cc in
      subst (λ (ys : List A). Found bs (flat_map each_bytes ys) rest (all_keep s ys)) x (record { bytes = r; left = subst Bytes r h; rule = none s })
  run_faithful s (suc n) bs xs rest h e =
      let f = first_turn read next s n bs xs rest e in
      let a = each s bs (f.item, f.mid) h f.reads in
      let b = run_faithful (next s f.item) n f.mid f.others rest a.left f.goes_on in
      subst (λ (ys : List A). Found bs (flat_map each_bytes ys) rest (all_keep s ys)) (sym f.splits) (record {
        bytes = a.bytes ∙ ap (λ (ys : List ℕ). each_bytes f.item ++ ys) b.bytes ∙ sym (append_assoc (each_bytes f.item) (flat_map each_bytes f.others) rest);
        left = b.left;
        rule = more s f.item f.others ∙ and_from _ _ a.rule b.rule;
      })

-- the numbers of a record
whole_ok : {A E : Type 0} (r : List A × Result (List ℕ) E) (p : List A × List ℕ) → whole_run r ≡ Ok p → r ≡ (p.0, Ok p.1)
whole_ok {A = A} {E = E} (xs, Ok rest) p e = ap {B = List A × Result (List ℕ) E} (λ (q : List A × List ℕ). (q.0, Ok q.1)) (ok_pair xs rest p e)
whole_ok (xs, Err f) p e = cc

numbers_faithful : (n : ℕ) (at : Spot) (bs : List ℕ) (p : List ℕ × List ℕ) → Bytes bs → numbers_of n at bs ≡ Ok p → Found bs (flat_map number_bytes p.0) p.1 true
numbers_faithful n at bs p h e =
    run_faithful (number_in at) next_number number_bytes (λ i x. true) (λ i xs. true) (λ i. refl) (λ i x xs. refl)
    (λ i cs q g f. let a = number_faithful at cs q g f in record { bytes = a.0; left = a.1; rule = refl }) 0 n bs p.0 p.1 h (whole_ok (numbers_run n at bs) p e)

-- ---- records

-- a number stands for one side, kind or class only
side_faithful : (n : ℕ) (s : Side) → side_of n ≡ Some s → n ≡ side_number s
side_faithful zero s e = cc
side_faithful (suc zero) s e = cc
side_faithful (suc (suc n)) s e = cc

kind_faithful : (n : ℕ) (k : Kind) → kind_of n ≡ Some k → n ≡ kind_number k
kind_faithful zero k e = cc
kind_faithful (suc zero) k e = cc
kind_faithful (suc (suc zero)) k e = cc
kind_faithful (suc (suc (suc n))) k e = cc

class_faithful : (n : ℕ) (k : Class) → class_of n ≡ Some k → n ≡ class_number k
class_faithful zero k e = cc
class_faithful (suc zero) k e = cc
class_faithful (suc (suc n)) k e = cc

-- a record that passed its rule
ruled_ok : {A : Type 0} (at : Spot) (o : Option A) (x : A) → ruled at o ≡ Ok x → o ≡ Some x
ruled_ok at None x h = cc
ruled_ok at (Some y) x h = cc

passed_some : {A : Type 0} (b : Bool) (x y : A) → passed b x ≡ Some y → (b ≡ true) × (x ≡ y)
passed_some true x y h = (refl, cc)
passed_some false x y h = cc

-- a record, by what is known of the numbers that make it
record_faithful : {A : Type 0} (make : List ℕ → Option A) (n : ℕ) (each_bytes : A → List ℕ) (keeps : A → Bool)
    (each : (ns : List ℕ) (x : A) → length ns ≡ n → make ns ≡ Some x → (flat_map number_bytes ns ≡ each_bytes x) × (keeps x ≡ true))
    (at : Spot) (bs : List ℕ) (p : A × List ℕ) → Bytes bs → record_of make n at bs ≡ Ok p → Found bs (each_bytes p.0) p.1 (keeps p.0)
record_faithful {A = A} make n each_bytes keeps each at bs p h e =
    let a = then_ok (in_record (numbers_of n at bs)) (λ (q : List ℕ × List ℕ). then (ruled at (make q.0)) (λ (x : A). Ok (x, q.1))) p e in
    let k = in_record_ok (numbers_of n at bs) a.0 a.1 in
    let f = numbers_faithful n at bs a.0 h k in
    let l = run_length (number_in at) next_number 0 n bs a.0.0 a.0.1 (whole_ok (numbers_run n at bs) a.0 k) in
    let b = then_ok (ruled at (make a.0.0)) (λ (x : A). Ok (x, a.0.1)) p a.2 in
    let m = each a.0.0 b.0 l (ruled_ok at (make a.0.0) b.0 b.1) in
    let q : (b.0, a.0.1) ≡ p = ok_pair b.0 a.0.1 p b.2 in
    subst (λ (p : A × List ℕ). Found bs (each_bytes p.0) p.1 (keeps p.0)) q
    (record { bytes = f.bytes ∙ ap (λ (xs : List ℕ). xs ++ a.0.1) m.0; left = f.left; rule = m.1 })

-- so many numbers are one after another
first_of : (P : List ℕ → Type 0) (k : ℕ) (ns : List ℕ) → length ns ≡ suc k → ((x : ℕ) (xs : List ℕ) → length xs ≡ k → P (x ∷ xs)) → P ns
first_of P k [] l f = absurd (omega arith)
first_of P k (x ∷ xs) l f = f x xs (omega arith)

no_more : (P : List ℕ → Type 0) (ns : List ℕ) → length ns ≡ 0 → P [] → P ns
no_more P [] l p = p
no_more P (x ∷ xs) l p = absurd (omega arith)

one_number : (ns : List ℕ) → length ns ≡ 1 → flat_map number_bytes ns ≡ number_bytes (slice_index ns 0)
one_number ns l =
    let P : List ℕ → Type 0 = λ xs. flat_map number_bytes xs ≡ number_bytes (slice_index xs 0) in
    first_of P 0 ns l (λ a r la. no_more (λ xs. P (a ∷ xs)) r la refl)

three_numbers : (ns : List ℕ) → length ns ≡ 3 → flat_map number_bytes ns ≡ number_bytes (slice_index ns 0) ++ (number_bytes (slice_index ns 1) ++ number_bytes (slice_index ns 2))
three_numbers ns l =
    let P : List ℕ → Type 0 = λ xs. flat_map number_bytes xs ≡ number_bytes (slice_index xs 0) ++ (number_bytes (slice_index xs 1) ++ number_bytes (slice_index xs 2)) in
    first_of P 2 ns l (λ a r la. first_of (λ xs. P (a ∷ xs)) 1 r la (λ b bs lb. first_of (λ xs. P (a ∷ b ∷ xs)) 0 bs lb (λ c cs lc. no_more (λ xs. P (a ∷ b ∷ c ∷ xs)) cs lc refl)))

four_numbers : (ns : List ℕ) → length ns ≡ 4 → flat_map number_bytes ns ≡ four_bytes (slice_index ns 0) (slice_index ns 1) (slice_index ns 2) (slice_index ns 3)
four_numbers ns l =
    let P : List ℕ → Type 0 = λ xs. flat_map number_bytes xs ≡ four_bytes (slice_index xs 0) (slice_index xs 1) (slice_index xs 2) (slice_index xs 3) in
    first_of P 3 ns l (λ a r la. first_of (λ xs. P (a ∷ xs)) 2 r la (λ b bs lb. first_of (λ xs. P (a ∷ b ∷ xs)) 1 bs lb
    (λ c cs lc. first_of (λ xs. P (a ∷ b ∷ c ∷ xs)) 0 cs lc (λ d ds ld. no_more (λ xs. P (a ∷ b ∷ c ∷ d ∷ xs)) ds ld refl))))

event_by : (period : ℕ) (ns : List ℕ) (o : Option Side) (e : Event) → side_of (slice_index ns 2) ≡ o → event_with period ns o ≡ Some e
    → (four_bytes (slice_index ns 0) (slice_index ns 1) (slice_index ns 2) (slice_index ns 3) ≡ event_bytes e) × (event_keeps period e ≡ true)
event_by period ns None e s h = cc
event_by period ns (Some side) e s h =
    let q = passed_some _ _ e h in
    (ap (λ (k : ℕ). four_bytes (slice_index ns 0) (slice_index ns 1) k (slice_index ns 3)) (side_faithful (slice_index ns 2) side s) ∙ ap event_bytes q.1, ap (event_keeps period) (sym q.1) ∙ q.0)

event_made : (period : ℕ) (ns : List ℕ) (e : Event) → length ns ≡ 4 → event_from period ns ≡ Some e → (flat_map number_bytes ns ≡ event_bytes e) × (event_keeps period e ≡ true)
event_made period ns e l h = let m = event_by period ns (side_of (slice_index ns 2)) e refl h in (four_numbers ns l ∙ m.0, m.1)

pub event_faithful : (period : ℕ) (at : Spot) (bs : List ℕ) (p : Event × List ℕ) → Bytes bs → event_of period at bs ≡ Ok p → Found bs (event_bytes p.0) p.1 (event_keeps period p.0)
event_faithful period = record_faithful (event_from period) 4 event_bytes (event_keeps period) (event_made period)

activity_by : (events : List Event) (ns : List ℕ) (o : Option Kind) (a : Activity) → kind_of (slice_index ns 0) ≡ o → activity_with events ns o ≡ Some a
    → (four_bytes (slice_index ns 0) (slice_index ns 1) (slice_index ns 2) (slice_index ns 3) ≡ activity_bytes a) × (activity_keeps events a ≡ true)
activity_by events ns None a s h = cc
activity_by events ns (Some kind) a s h =
    let q = passed_some _ _ a h in
    (ap (λ (k : ℕ). four_bytes k (slice_index ns 1) (slice_index ns 2) (slice_index ns 3)) (kind_faithful (slice_index ns 0) kind s) ∙ ap activity_bytes q.1, ap (activity_keeps events) (sym q.1) ∙ q.0)

activity_made : (events : List Event) (ns : List ℕ) (a : Activity) → length ns ≡ 4 → activity_from events ns ≡ Some a → (flat_map number_bytes ns ≡ activity_bytes a) × (activity_keeps events a ≡ true)
activity_made events ns a l h = let m = activity_by events ns (kind_of (slice_index ns 0)) a refl h in (four_numbers ns l ∙ m.0, m.1)

pub activity_faithful : (events : List Event) (at : Spot) (bs : List ℕ) (p : Activity × List ℕ) → Bytes bs → activity_of events at bs ≡ Ok p → Found bs (activity_bytes p.0) p.1 (activity_keeps events p.0)
activity_faithful events = record_faithful (activity_from events) 4 activity_bytes (activity_keeps events) (activity_made events)

-- a number under a rule: the period, and a step
tested : (test : ℕ → Bool) (ns : List ℕ) (n : ℕ) → length ns ≡ 1 → passed (test (slice_index ns 0)) (slice_index ns 0) ≡ Some n → (flat_map number_bytes ns ≡ number_bytes n) × (test n ≡ true)
tested test ns n l h = let q = passed_some _ _ n h in (one_number ns l ∙ ap number_bytes q.1, ap test (sym q.1) ∙ q.0)

pub period_faithful : (at : Spot) (bs : List ℕ) (p : ℕ × List ℕ) → Bytes bs → period_of at bs ≡ Ok p → Found bs (number_bytes p.0) p.1 (period_keeps p.0)
period_faithful = record_faithful period_from 1 number_bytes period_keeps (tested period_keeps)

pub step_faithful : (activities : List Activity) (from : Option ℕ) (at : Spot) (bs : List ℕ) (p : ℕ × List ℕ) → Bytes bs → step_of activities from at bs ≡ Ok p
    → Found bs (number_bytes p.0) p.1 (step_keeps activities from p.0)
step_faithful activities from = record_faithful (step_from activities from) 1 number_bytes (step_keeps activities from) (tested (step_keeps activities from))

-- a lot's three numbers
abbrev pub head_bytes : Class → ℕ → ℕ → List ℕ
head_bytes class parcels count = number_bytes (class_number class) ++ (number_bytes parcels ++ number_bytes count)

head_by : (ns : List ℕ) (o : Option Class) (k : LotHead) → class_of (slice_index ns 0) ≡ o → head_with ns o ≡ Some k
    → (number_bytes (slice_index ns 0) ++ (number_bytes (slice_index ns 1) ++ number_bytes (slice_index ns 2)) ≡ head_bytes k.class k.parcels k.count) × (lot_keeps k.parcels k.count ≡ true)
head_by ns None k s h = cc
head_by ns (Some class) k s h =
    let q = passed_some _ _ k h in (
      ap (λ (m : ℕ). number_bytes m ++ (number_bytes (slice_index ns 1) ++ number_bytes (slice_index ns 2))) (class_faithful (slice_index ns 0) class s) ∙ ap (λ (x : LotHead). head_bytes x.class x.parcels x.count) q.1,
      ap (λ (x : LotHead). lot_keeps x.parcels x.count) (sym q.1) ∙ q.0,
    )

head_made : (ns : List ℕ) (k : LotHead) → length ns ≡ 3 → head_from ns ≡ Some k → (flat_map number_bytes ns ≡ head_bytes k.class k.parcels k.count) × (lot_keeps k.parcels k.count ≡ true)
head_made ns k l h = let m = head_by ns (class_of (slice_index ns 0)) k refl h in (three_numbers ns l ∙ m.0, m.1)

pub head_faithful : (at : Spot) (bs : List ℕ) (p : LotHead × List ℕ) → Bytes bs → head_of at bs ≡ Ok p
    → Found bs (head_bytes p.0.class p.0.parcels p.0.count) p.1 (lot_keeps p.0.parcels p.0.count)
head_faithful = record_faithful head_from 3 (λ (k : LotHead). head_bytes k.class k.parcels k.count) (λ (k : LotHead). lot_keeps k.parcels k.count) head_made
