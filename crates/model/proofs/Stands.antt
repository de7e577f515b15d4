-- The laws, from the proofs over yards.
use Rattle.std.proofs.Common.{◌≡◌, ℕ, ◌*◌, ◌<◌, ◌≤◌, Bool, true, false, cond, eqb, ltb, ◌⊎◌, ◌↔◌, length, sym, refl, ◌∙◌, subst, inl, inr, arith}
use Rattle.std.proofs.lemmas.Bool.{leb-true, cases_lt, cases_eq, eq-eqb, ne_eqb, lt-ltb, cond-true, cond-false}
use Rattle.sheet.specs.Rules.{Tables, event_at, no_event, event_keeps, well_formed}
use Rattle.sheet.proofs.Stretches.{kept_of}
use Rattle.carry.specs.Laws.{LawfulRule}
use Rattle.carry.specs.Handed.{deducted}
use Rattle.tariff.specs.Prices.{Prices, LawfulPrices}
use Rattle.model.specs.declared.mark.Mark.{Mark}
use Rattle.model.specs.Yard.{Yard, event_count, activity_count, tail, head, handed, noted, struck, transfer}
use Rattle.model.specs.Lateness.{brings, all_wait, least, worst}
use Rattle.model.specs.Lots.{lot_count, the_lot, end, missed}
use Rattle.model.specs.Tolls.{fares_of, toll}
use Rattle.model.specs.Reserves.{tolerance, reserve}
use Rattle.model.specs.Laws.{yard, alone, OneLeast, LawfulByDeduct, AChoice, NoRivalCheaper, TollByBills, LightBills, MinutesToll, WithinReserves, ReserveAlone}
use Rattle.model.proofs.Ground.{Sound, noted_past, own_all}
use Rattle.model.proofs.Lateness.{least_one}
use Rattle.model.proofs.Tops.{top_le}
use Rattle.model.proofs.Forest.{worst_lawful, worst_is}
use Rattle.model.proofs.Sums.{sum_same}
use Rattle.model.proofs.Meets.{meets_nowhere}
use Rattle.model.proofs.Whole.{cheapest}
use Rattle.model.proofs.Planned.{planned, planned_is}
use Rattle.model.proofs.Bulks.{numbers_fair, bill_roomy}
use Rattle.model.proofs.Reserves.{within_both, reserve_tolerance}
use Rattle.model.proofs.OnSheets.{every_at, sound, orderly, weighed, period_most}

pub one_least : (rule : ℕ → ℕ → ℕ) → LawfulRule rule → OneLeast rule
one_least rule lawful t delay mark w z =
    let l = least_one (yard t rule delay mark) (sound t rule delay mark w lawful) z in
    (l, λ y m e h. let a = m.no_later (least (yard t rule delay mark) z) l.lawful e h in let b = l.no_later y m.lawful e h in omega arith)

pub lawful_by_deduct : LawfulByDeduct
unfolding handed
lawful_by_deduct t delay mark z y = (
  (λ l. (l.own, λ a h b. let n = l.next a h b in omega arith)),
  (λ m. record { own = m.0; next = λ a h b. let n = m.1 a h b in omega arith }),
)

pub a_choice : {A : Type 0} (rule : ℕ → ℕ → ℕ) (p : Prices A) → LawfulRule rule → AChoice rule p
a_choice rule p lawful t delay mark w =
    let g = yard t rule delay mark in
    let so = sound t rule delay mark w lawful in
    (planned g p.tolls (fares_of p g) so, planned_is g p.tolls (fares_of p g) so)

module _ {A : Type 0} (rule : ℕ → ℕ → ℕ) (p : Prices A) (lawful : LawfulRule rule) (fair : LawfulPrices p) where
  pub no_rival_cheaper : NoRivalCheaper rule p
  no_rival_cheaper t delay mark w r c z pl x y ly =
      let g = yard t rule delay mark in
      let so = sound t rule delay mark w lawful in
      let n = (meets_nowhere g so).0 c.no_meeting in
      let o = orderly t rule delay mark p w lawful fair r c in
      let h = cheapest g p.tolls (fares_of p g) t.period so n fair.tolls o z pl x y ly in
      subst (λ (u : A). p.tolls.at_most u (toll g p.tolls (fares_of p g) x y) ≡ true) (sym h.0) h.1

  pub toll_by_bills : TollByBills rule p
  toll_by_bills t delay mark w r c z pl =
      let g = yard t rule delay mark in
      let so = sound t rule delay mark w lawful in
      let n = (meets_nowhere g so).0 c.no_meeting in
      let o = orderly t rule delay mark p w lawful fair r c in
      (cheapest g p.tolls (fares_of p g) t.period so n fair.tolls o z pl z (least g z) (least_one g so z).lawful).0

  pub light_bills : LightBills rule p
  unfolding lot_count
  light_bills t delay mark w r c e =
      let g = yard t rule delay mark in
      let so = sound t rule delay mark w lawful in
      let n = (meets_nowhere g so).0 c.no_meeting in
      let o = orderly t rule delay mark p w lawful fair r c in
      (bill_roomy p.tolls fair.tolls g (fares_of p g) t.period _ so n o (weighed t rule delay mark p w lawful fair r) e).fits

pub minutes_toll : MinutesToll
unfolding toll
minutes_toll t delay mark z y =
    let g = yard t deducted delay mark in
    sum_same numbers_fair (lot_count g) _ _ (λ i h. each (missed g z i) (the_lot g i).parcels t.period (y (end g i)))
  where
    each : (b : Bool) (n late lost : ℕ) → cond b (n * late) (n * lost) ≡ n * cond b late lost
    each true n late lost = refl
    each false n late lost = refl

-- ---- reserves

module _ (t : Tables) (rule : ℕ → ℕ → ℕ) (delay : ℕ → ℕ) (mark : ℕ → Mark) (w : well_formed t ≡ true) (lawful : LawfulRule rule) where
  -- tolerances are within the period
  tolerant : (e : ℕ) → e < event_count (yard t rule delay mark) → tolerance (yard t rule delay mark) e ≤ 1440
  unfolding tolerance event_count
  tolerant e h =
      let k = every_at (event_keeps t.period) t.events (kept_of t w).events e no_event h in
      let a = leb-true (event_at t.events e).tolerance t.period k in
      let b = period_most t w in
      omega arith

  -- past the last event there is no lateness
  worst_past : (e : ℕ) → event_count (yard t rule delay mark) ≤ e → worst (yard t rule delay mark) e ≡ 0
  worst_past e h =
      let g = yard t rule delay mark in
      let so = sound t rule delay mark w lawful in
      let i = worst_is g so e in
      let n = noted_past g e h in
      let u = top_le (activity_count g) (brings g all_wait (worst g) e) 0 (λ a v. elsewhere a v) in
      omega arith
    where
      elsewhere : (a : ℕ) → a < activity_count (yard t rule delay mark) → brings (yard t rule delay mark) all_wait (worst (yard t rule delay mark)) e a ≤ 0
      elsewhere a v =
          let b = (sound t rule delay mark w lawful).within a v in
          let ne : eqb (head (yard t rule delay mark) a) e ≡ false = ne_eqb (head (yard t rule delay mark) a) e (λ q. omega arith) in
          let z : brings (yard t rule delay mark) all_wait (worst (yard t rule delay mark)) e a ≡ 0 = cond-false (eqb (head (yard t rule delay mark) a) e) _ 0 ne in
          omega arith

  -- what holds of the sheet's events holds of all numbers
  all_numbers : (f h : ℕ → ℕ) → ((e : ℕ) → event_count (yard t rule delay mark) ≤ e → f e ≡ 0) → ((e : ℕ) → e < event_count (yard t rule delay mark) → f e ≤ h e) → (e : ℕ) → f e ≤ h e
  all_numbers f h past within e = go (cases_lt e (event_count (yard t rule delay mark)))
    where
      go : (e < event_count (yard t rule delay mark)) ⊎ (event_count (yard t rule delay mark) ≤ e) → f e ≤ h e
      go (inl v) = within e v
      go (inr v) = let z = past e v in omega arith

  pub within_reserves_at : ((e : ℕ) → e < event_count (yard t rule delay mark) → worst (yard t rule delay mark) e ≤ tolerance (yard t rule delay mark) e)
      ↔ ((e : ℕ) → e < event_count (yard t rule delay mark) → noted (yard t rule delay mark) e ≤ reserve (yard t rule delay mark) e)
  within_reserves_at = (
    (λ h e v. (within_both g so (small_by h)).0 (all_numbers (worst g) (tolerance g) worst_past h) e),
    (λ h e v. (within_both g so (small_from h)).1 (all_numbers (noted g) (reserve g) (noted_past g) h) e),
  )
    where
      g : Yard
      g = yard t rule delay mark

      so : Sound g
      so = sound t rule delay mark w lawful

      small_by : ((e : ℕ) → e < event_count g → worst g e ≤ tolerance g e) → (e : ℕ) → noted g e ≤ 1440
      small_by h = all_numbers (noted g) (λ e. 1440) (noted_past g) (λ e v. let a = own_all (worst_lawful g so) e in let b = h e v in let c = tolerant e v in omega arith)

      small_from : ((e : ℕ) → e < event_count g → noted g e ≤ reserve g e) → (e : ℕ) → noted g e ≤ 1440
      small_from h = all_numbers (noted g) (λ e. 1440) (noted_past g) (λ e v. let a = reserve_tolerance g so e in let b = h e v in let c = tolerant e v in omega arith)

pub within_reserves : (rule : ℕ → ℕ → ℕ) → LawfulRule rule → WithinReserves rule
within_reserves rule lawful t delay mark w = within_reserves_at t rule delay mark w lawful

pub reserve_alone : (rule : ℕ → ℕ → ℕ) → LawfulRule rule → ReserveAlone rule
unfolding noted event_count reserve activity_count tail head handed struck tolerance transfer
reserve_alone rule lawful t delay mark w event minutes h =
    let b = within_reserves_at t rule (alone event minutes) mark w lawful in (
      (λ k. let r = b.0 k event h in let z = at_event in omega arith),
      (λ k. b.1 (λ e v. each e v (cases_eq e event) k)),
    )
  where
    at_event : noted (yard t rule (alone event minutes) mark) event ≡ minutes
    at_event = cond-true (ltb event (length t.events)) (alone event minutes event) 0 (lt-ltb event (length t.events) h) ∙ cond-true (eqb event event) minutes 0 (eq-eqb event event refl)

    each : (e : ℕ) → e < length t.events → (e ≡ event) ⊎ (e ≡ event → ⊥) → minutes ≤ reserve (yard t rule delay mark) event → noted (yard t rule (alone event minutes) mark) e ≤ reserve (yard t rule (alone event minutes) mark) e
    each e v (inl q) k = subst (λ (x : ℕ). noted (yard t rule (alone event minutes) mark) x ≤ reserve (yard t rule delay mark) x) (sym q) (let z = at_event in omega arith)
    each e v (inr ne) k =
        let z : noted (yard t rule (alone event minutes) mark) e ≡ 0 = cond-true (ltb e (length t.events)) (alone event minutes e) 0 (lt-ltb e (length t.events) v) ∙ cond-false (eqb e event) minutes 0 (ne_eqb e event ne) in
        omega arith
