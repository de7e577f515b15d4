-- One reading after another: what a loop has read and written after i turns.
use Rattle.std.proofs.Common.{◌≡◌, ℕ, zero, suc, ◌+◌, ◌-◌, ◌<◌, ◌≤◌, List, [], ◌∷◌, ◌++◌, length, set, Ok, Err, Result, sym, refl, ap, ◌∙◌, arith}
use native.Mathlib.Nat.{sub-zero}
use Rattle.std.proofs.lemmas.List.{append_assoc, append-nil, length_push}
use Rattle.sheet.specs.Laid.{laid}
use Rattle.sheet.proofs.Laying.{laid_none, laid_more}
use Rattle.sheet_read.specs.Numbers.{run}

-- what is read after `xs`
abbrev pub after : {A E : Type 0} → List A → List A × Result (List ℕ) E → List A × Result (List ℕ) E
after xs r = (xs ++ r.0, r.1)

module _ {A S E : Type 0} (read : S → List ℕ → Result (A × List ℕ) E) (next : S → A → S) where
  -- a run by its first turn
  pub run_more : (s : S) (n : ℕ) (bs : List ℕ) (x : A) (rest : List ℕ) → read s bs ≡ Ok (x, rest) → run read next s (suc n) bs ≡ after (x ∷ []) (run read next (next s x) n rest)
  run_more s n bs x rest e = rw (e, run)

  pub run_fault : (s : S) (n : ℕ) (bs : List ℕ) (f : E) → read s bs ≡ Err f → run read next s (suc n) bs ≡ ([], Err f)
  run_fault s n bs f e = rw (e, run)

  -- a run that comes to its end, by its first turn
  pub record First (s : S) (n : ℕ) (bs : List ℕ) (xs : List A) (rest : List ℕ) : Type 0 where
    pub item : A
    pub mid : List ℕ
    pub others : List A
    pub reads : read s bs ≡ Ok (item, mid)
    pub splits : xs ≡ item ∷ others
    pub goes_on : run read next (next s item) n mid ≡ (others, Ok rest)

  pub first_turn : (s : S) (n : ℕ) (bs : List ℕ) (xs : List A) (rest : List ℕ) → run read next s (suc n) bs ≡ (xs, Ok rest) → First s n bs xs rest
  first_turn s n bs xs rest e =
      elim (read s bs) as (λ v. read s bs ≡ v → First s n bs xs rest) [
        | Ok p ↦ λ q.
            let m : after (p.0 ∷ []) (run read next (next s p.0) n p.1) ≡ (xs, Ok rest) = sym (run_more s n bs p.0 p.1 q) ∙ e in
            let r = run read next (next s p.0) n p.1 in
            record {
              item = p.0;
              mid = p.1;
              others = r.0;
              reads = q;
              splits = ap (λ (x : List A × Result (List ℕ) E). x.0) (sym m);
              goes_on = ap (λ (o : Result (List ℕ) E). (r.0, o)) (ap (λ (x : List A × Result (List ℕ) E). x.1) m);
            }
        | Err f ↦ λ q. let m = ap (λ (x : List A × Result (List ℕ) E). x.1) (sym (run_fault s n bs f q) ∙ e) in let z : ◌≡◌ {A = ℕ} 0 1 = cc in absurd (omega arith)
      ]
      refl

  -- a run that comes to its end gives as much as it was to
  pub run_length : (s : S) (n : ℕ) (bs : List ℕ) (xs : List A) (rest : List ℕ) → run read next s n bs ≡ (xs, Ok rest) → length xs ≡ n
  run_length s zero bs xs rest e = ap (λ (r : List A × Result (List ℕ) E). length r.0) (sym e)
  run_length s (suc n) bs xs rest e =
      let f = first_turn s n bs xs rest e in
      ap length f.splits ∙ ap suc (run_length (next s f.item) n f.mid f.others rest f.goes_on)

  -- after i of n turns from the state s₀ and the bytes bs, `xs` is read, and the run goes on from s and `rest`
  pub record Reached (s₀ : S) (n : ℕ) (bs : List ℕ) (i : ℕ) (s : S) (rest : List ℕ) (xs : List A) : Type 0 where
    pub goes : run read next s₀ n bs ≡ after xs (run read next s (n - i) rest)
    pub long : length xs ≡ i

  module _ (s₀ : S) (n : ℕ) (bs : List ℕ) where
    pub reached_none : Reached s₀ n bs 0 s₀ bs []
    reached_none = record { goes = rw sub-zero; long = refl }

    turn : (i : ℕ) → i < n → n - i ≡ suc (n - (i + 1))
    turn i h = omega arith

    pub reached_more : (i : ℕ) (s : S) (rest : List ℕ) (xs : List A) (x : A) (rest' : List ℕ)
        → Reached s₀ n bs i s rest xs → i < n → read s rest ≡ Ok (x, rest') → Reached s₀ n bs (i + 1) (next s x) rest' (xs ++ x ∷ [])
    reached_more i s rest xs x rest' r h e =
        let step : run read next s (n - i) rest ≡ after (x ∷ []) (run read next (next s x) (n - (i + 1)) rest') = rw (turn i h) (run_more s (n - (i + 1)) rest x rest' e) in
        let joined : after xs (after (x ∷ []) (run read next (next s x) (n - (i + 1)) rest')) ≡ after (xs ++ x ∷ []) (run read next (next s x) (n - (i + 1)) rest') = rw append_assoc in
        record { goes = r.goes ∙ ap (after xs) step ∙ joined; long = length_push xs x ∙ rw r.long }

    pub reached_fault : (i : ℕ) (s : S) (rest : List ℕ) (xs : List A) (f : E) → Reached s₀ n bs i s rest xs → i < n → read s rest ≡ Err f → run read next s₀ n bs ≡ (xs, Err f)
    reached_fault i s rest xs f r h e =
        let step : run read next s (n - i) rest ≡ ([], Err f) = rw (turn i h) (run_fault s (n - (i + 1)) rest f e) in
        r.goes ∙ ap (after xs) step ∙ rw append-nil

    pub reached_all : (i : ℕ) (s : S) (rest : List ℕ) (xs : List A) → Reached s₀ n bs i s rest xs → n ≤ i → run read next s₀ n bs ≡ (xs, Ok rest)
    reached_all i s rest xs r h =
        let none : n - i ≡ 0 = omega arith in
        let step : run read next s (n - i) rest ≡ ([], Ok rest) = rw none in
        r.goes ∙ ap (after xs) step ∙ rw append-nil

-- the same, with what was read laid into a table from cell `at` on
module _ {A S E : Type 0} (read : S → List ℕ → Result (A × List ℕ) E) (next : S → A → S) (s₀ : S) (n : ℕ) (bs : List ℕ) (at : ℕ) (old : List A) where
  pub record Filled (i : ℕ) (s : S) (rest : List ℕ) (table : List A) : Type 0 where
    pub items : List A
    pub reached : Reached read next s₀ n bs i s rest items
    pub cells : table ≡ laid at items old

  pub filled_none : Filled 0 s₀ bs old
  filled_none = record { items = []; reached = reached_none read next s₀ n bs; cells = sym (laid_none at old) }

  pub filled_more : (i : ℕ) (s : S) (rest : List ℕ) (table : List A) (x : A) (rest' : List ℕ) (k : ℕ)
      → Filled i s rest table → i < n → k ≡ at + i → k < length old → read s rest ≡ Ok (x, rest') → Filled (i + 1) (next s x) rest' (set table k x)
  filled_more i s rest table x rest' k f h e l r =
      let q : k ≡ at + length f.items = e ∙ ap (λ j. at + j) (sym f.reached.long) in
      record {
        items = f.items ++ x ∷ [];
        reached = reached_more read next s₀ n bs i s rest f.items x rest' f.reached h r;
        cells = rw (f.cells, q) (laid_more at f.items old x (omega (arith, q, l)));
      }

  -- where the run ends, the table holds just what it gives
  ended : (xs : List A) (o : Result (List ℕ) E) (table : List A) → table ≡ laid at xs old → run read next s₀ n bs ≡ (xs, o)
      → ((run read next s₀ n bs).1 ≡ o) × (table ≡ laid at (run read next s₀ n bs).0 old)
  ended xs o table t e = (ap (λ (p : List A × Result (List ℕ) E). p.1) e, t ∙ ap (λ (p : List A × Result (List ℕ) E). laid at p.0 old) (sym e))

  pub filled_fault : (i : ℕ) (s : S) (rest : List ℕ) (table : List A) (f : E) → Filled i s rest table → i < n → read s rest ≡ Err f
      → ((run read next s₀ n bs).1 ≡ Err f) × (table ≡ laid at (run read next s₀ n bs).0 old)
  filled_fault i s rest table f t h r = ended t.items (Err f) table t.cells (reached_fault read next s₀ n bs i s rest t.items f t.reached h r)

  pub filled_all : (i : ℕ) (s : S) (rest : List ℕ) (table : List A) → Filled i s rest table → n ≤ i
      → ((run read next s₀ n bs).1 ≡ Ok rest) × (table ≡ laid at (run read next s₀ n bs).0 old)
  filled_all i s rest table t h = ended t.items (Ok rest) table t.cells (reached_all read next s₀ n bs i s rest t.items t.reached h)
