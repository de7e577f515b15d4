-- Reports one after another: the first at fault, and what is noted so far.
use Rattle.std.proofs.Common.{◌≡◌, ℕ, zero, suc, ◌+◌, ◌<◌, ◌≤◌, Bool, true, false, cond, ◌||◌, eqb, ltb, leb, ◌⊎◌, List, [], ◌∷◌, length, get_or, drop, set, Some, None, Option, sym, refl, ap, ◌∙◌, inl, inr, arith, get_or-set_other, get_or-set_same}
use Rattle.std.proofs.lemmas.List.{drop_more, drop_all}
use Rattle.std.proofs.lemmas.Bool.{eq-eqb, ne_eqb, cases_eq, lt-ltb, le-ltb, ltb-false, leb-false, or_left, or_right, or_from, or_parts, cond-true, cond-false}
use Rattle.sheet.specs.Rules.{Tables}
use Rattle.outlook.specs.declared.answer.OutlookFault.{OutlookFault}
use Rattle.outlook.specs.declared.answer.OutlookFault.TheVariants.{NoEvent, TooLong, ShortTable}
use Rattle.outlook.specs.declared.report.Report.{Report}
use Rattle.outlook.specs.Reports.{no_report, fault_in, or_else, first_fault, renoted, noted_after}
use Rattle.outlook.specs.Outlook.{short_in, refusal_in}

-- the fault of the reports from i on, by report i and the later ones
fault_from : (t : Tables) (rs : List Report) (i : ℕ) → i < length rs → first_fault t (drop i rs) ≡ or_else (fault_in t (get_or rs i no_report)) (first_fault t (drop (i + 1) rs))
unfolding first_fault
fault_from t rs i h = ap (first_fault t) (drop_more rs i no_report h)

module _ (t : Tables) (rs : List Report) (i : ℕ) (h : i < length rs) (so : first_fault t rs ≡ first_fault t (drop i rs)) where
  by_report : (o : Option OutlookFault) → o ≡ fault_in t (get_or rs i no_report) → or_else o (first_fault t (drop (i + 1) rs)) ≡ first_fault t rs
  by_report o is = ap (λ (x : Option OutlookFault). or_else x (first_fault t (drop (i + 1) rs))) is ∙ sym (so ∙ fault_from t rs i h)

  pub fault_here : (fault : OutlookFault) → Some fault ≡ fault_in t (get_or rs i no_report) → Some fault ≡ first_fault t rs
  fault_here fault is = by_report (Some fault) is

  pub fault_later : None ≡ fault_in t (get_or rs i no_report) → first_fault t rs ≡ first_fault t (drop (i + 1) rs)
  fault_later is = sym (by_report None is)

pub no_fault : (t : Tables) (rs : List Report) (i : ℕ) → length rs ≤ i → first_fault t rs ≡ first_fault t (drop i rs) → None ≡ first_fault t rs
unfolding first_fault
no_fault t rs i h so = sym (so ∙ ap (first_fault t) (drop_all i rs h))

-- a cell after the report of an event
cell : (delays : List ℕ) (e : ℕ) (r : Report) → r.event < length delays → get_or (set delays r.event r.minutes) e 0 ≡ renoted e (get_or delays e 0) r
cell delays e r h = go (cases_eq r.event e)
  where
    go : (r.event ≡ e) ⊎ (r.event ≡ e → ⊥) → get_or (set delays r.event r.minutes) e 0 ≡ renoted e (get_or delays e 0) r
    go (inl y) =
        ap (λ (k : ℕ). get_or (set delays r.event r.minutes) k 0) (sym y)
        ∙ get_or-set_same delays r.event r.minutes 0 h
        ∙ sym (cond-true (eqb r.event e) r.minutes (get_or delays e 0) (eq-eqb r.event e y))
    go (inr n) =
        get_or-set_other delays r.event e r.minutes 0 (λ q. n (sym q))
        ∙ sym (cond-false (eqb r.event e) r.minutes (get_or delays e 0) (ne_eqb r.event e n))

pub noted_more : (rs : List Report) (delays : List ℕ) (i e : ℕ) → i < length rs → (get_or rs i no_report).event < length delays
    → noted_after e (get_or (set delays (get_or rs i no_report).event (get_or rs i no_report).minutes) e 0) (drop (i + 1) rs) ≡ noted_after e (get_or delays e 0) (drop i rs)
unfolding noted_after
noted_more rs delays i e h k =
    ap (λ (x : ℕ). noted_after e x (drop (i + 1) rs)) (cell delays e (get_or rs i no_report) k)
    ∙ sym (ap (noted_after e (get_or delays e 0)) (drop_more rs i no_report h))

pub noted_all : (rs : List Report) (i e x : ℕ) → length rs ≤ i → x ≡ noted_after e x (drop i rs)
unfolding noted_after
noted_all rs i e x h = sym (ap (noted_after e x) (drop_all i rs h))

-- ---- why there is no outlook

module _ (t : Tables) (rs : List Report) (late_cells live_cells : ℕ) where
  by_reports : (o : Option OutlookFault) → o ≡ first_fault t rs → or_else o (short_in t late_cells live_cells) ≡ refusal_in t rs late_cells live_cells
  by_reports o is = ap (λ (x : Option OutlookFault). or_else x (short_in t late_cells live_cells)) is

  pub refused_first : (fault : OutlookFault) → Some fault ≡ first_fault t rs → Some fault ≡ refusal_in t rs late_cells live_cells
  refused_first fault is = by_reports (Some fault) is

  pub refused_short : None ≡ first_fault t rs → (late_cells < length t.events) ⊎ (live_cells < length t.activities) → Some ShortTable ≡ refusal_in t rs late_cells live_cells
  refused_short is w = sym (cond-true (ltb late_cells (length t.events) || ltb live_cells (length t.activities)) (Some ShortTable) None (go w)) ∙ by_reports None is
    where
      go : (late_cells < length t.events) ⊎ (live_cells < length t.activities) → (ltb late_cells (length t.events) || ltb live_cells (length t.activities)) ≡ true
      go (inl h) = or_left (ltb late_cells (length t.events)) _ (lt-ltb late_cells (length t.events) h)
      go (inr h) = or_right (ltb late_cells (length t.events)) _ (lt-ltb live_cells (length t.activities) h)

  pub refused_not : None ≡ first_fault t rs → length t.events ≤ late_cells → length t.activities ≤ live_cells → None ≡ refusal_in t rs late_cells live_cells
  refused_not is x y =
      sym (cond-false (ltb late_cells (length t.events) || ltb live_cells (length t.activities)) (Some ShortTable) None
      (or_from _ _ (le-ltb late_cells (length t.events) x) (le-ltb live_cells (length t.activities) y)))
      ∙ by_reports None is

-- ---- what follows where there is one

-- the two parts of no answer
neither : {A : Type 0} (o x : Option A) → or_else o x ≡ None → (o ≡ None) × (x ≡ None)
neither (Some y) x h = let z : ◌≡◌ {A = ℕ} 0 1 = cc in absurd (omega arith)
neither None x h = (refl, h)

-- where a test that would refuse does not
passed : {A : Type 0} (b : Bool) (x : A) (o : Option A) → cond b (Some x) o ≡ None → (b ≡ false) × (o ≡ None)
passed true x o h = let z : ◌≡◌ {A = ℕ} 0 1 = cc in absurd (omega arith)
passed false x o h = (refl, h)

-- a report that is not at fault
pub record SoundReport (t : Tables) (r : Report) : Type 0 where
  pub known : r.event < length t.events
  pub short : r.minutes ≤ t.period

pub all_sound : (t : Tables) (rs : List Report) → first_fault t rs ≡ None → (i : ℕ) → i < length rs → SoundReport t (get_or rs i no_report)
unfolding first_fault
all_sound t [] h i k = absurd (omega arith)
all_sound t (r ∷ rs) h zero k =
    let a = passed (leb (length t.events) r.event) NoEvent _ (neither (fault_in t r) (first_fault t rs) h).0 in
    let b = passed (ltb t.period r.minutes) TooLong None a.1 in
    record { known = leb-false (length t.events) r.event a.0; short = ltb-false t.period r.minutes b.0 }
all_sound t (r ∷ rs) h (suc i) k = all_sound t rs (neither (fault_in t r) (first_fault t rs) h).1 i (omega arith)

pub record Clean (t : Tables) (rs : List Report) (late_cells live_cells : ℕ) : Type 0 where
  pub reports : first_fault t rs ≡ None
  pub late_room : length t.events ≤ late_cells
  pub live_room : length t.activities ≤ live_cells

pub clean : (t : Tables) (rs : List Report) (late_cells live_cells : ℕ) → refusal_in t rs late_cells live_cells ≡ None → Clean t rs late_cells live_cells
clean t rs late_cells live_cells h =
    let n = neither (first_fault t rs) (short_in t late_cells live_cells) h in
    let b = or_parts (ltb late_cells (length t.events)) (ltb live_cells (length t.activities)) (passed (ltb late_cells (length t.events) || ltb live_cells (length t.activities)) ShortTable None n.1).0 in
    record { reports = n.0; late_room = ltb-false late_cells (length t.events) b.0; live_room = ltb-false live_cells (length t.activities) b.1 }

-- no note is above the period
pub noted_short : (t : Tables) (rs : List Report) (e x : ℕ) → x ≤ t.period → ((i : ℕ) → i < length rs → SoundReport t (get_or rs i no_report)) → noted_after e x rs ≤ t.period
unfolding noted_after
noted_short t [] e x h s = h
noted_short t (r ∷ rs) e x h s = noted_short t rs e (renoted e x r) (go (eqb r.event e)) (λ i k. s (suc i) (omega arith))
  where
    go : (b : Bool) → cond b r.minutes x ≤ t.period
    go true = (s zero (omega arith)).short
    go false = h
