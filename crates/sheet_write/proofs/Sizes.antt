-- How many bytes a sheet has, and its lots' stretches one by one.
use Rattle.std.proofs.Common.{◌≡◌, ℕ, suc, ◌+◌, ◌*◌, true, List, [], ◌∷◌, ◌++◌, length, take, drop, sym, refl, ap, ◌∙◌, arith, length-append, length-drop}
use Rattle.std.specs.List.{flat_map}
use Rattle.std.proofs.lemmas.List.{drop-drop, length-take-le}
use Rattle.std.proofs.lemmas.Bool.{eqb-true}
use Rattle.sheet.specs.declared.records.Activity.{Activity}
use Rattle.sheet.specs.declared.records.Lot.{Lot}
use Rattle.sheet.specs.Rules.{Tables, stretch, lots_keep, well_formed}
use Rattle.sheet.specs.Bytes.{number_bytes, event_bytes, activity_bytes, lot_bytes, section_bytes, bytes_of}
use Rattle.sheet.proofs.Stretches.{kept_of, first_of}

-- items of k bytes each
pub joined_length : {X : Type 0} (f : X → List ℕ) (k : ℕ) → ((x : X) → length (f x) ≡ k) → (xs : List X) → length (flat_map f xs) ≡ k * length xs
joined_length f k h [] = omega arith
joined_length f k h (x ∷ xs) =
    let n : length (f x ++ flat_map f xs) ≡ length (f x) + length (flat_map f xs) = length-append (f x) (flat_map f xs) in
    let r : length (flat_map f xs) ≡ k * length xs = joined_length f k h xs in
    let e : length (f x) ≡ k = h x in
    let m : k * suc (length xs) ≡ k + k * length xs = mul_next k (length xs) in
    omega (arith, n, r, e, m)
  where
    mul_next : (k n : ℕ) → k * suc n ≡ k + k * n
    mul_next k n = grind arith

-- six bytes a lot, and two for each of its steps
lots_length : (activities : List Activity) (first : ℕ) (ls : List Lot) (left steps : List ℕ) → lots_keep activities first ls left ≡ true → drop first steps ≡ left
    → length (flat_map (lot_bytes steps) ls) ≡ 6 * length ls + 2 * length left
lots_length activities first [] left steps h d = let z = eqb-true (length left) 0 h in omega (arith, z)
lots_length activities first (l ∷ ls) left steps h d =
    let f = first_of activities first l ls left h in
    let own : stretch l steps ≡ take l.count left = ap (λ (k : ℕ). take l.count (drop k steps)) f.starts ∙ ap (take l.count) d in
    let k : length (take l.count left) ≡ l.count = length-take-le l.count left f.within in
    let s : length (flat_map number_bytes (stretch l steps)) ≡ 2 * l.count = joined_length number_bytes 2 (λ n. refl) (stretch l steps) ∙ ap (λ (ys : List ℕ). 2 * length ys) own ∙ ap (λ (j : ℕ). 2 * j) k in
    let n : length (lot_bytes steps l ++ flat_map (lot_bytes steps) ls) ≡ length (lot_bytes steps l) + length (flat_map (lot_bytes steps) ls) = length-append (lot_bytes steps l) (flat_map (lot_bytes steps) ls) in
    let r = lots_length activities (first + l.count) ls (drop l.count left) steps f.others (sym (drop-drop l.count first steps) ∙ ap (drop l.count) d) in
    omega (arith, n, s, r, length-drop l.count left, f.within)

-- the parts of a sheet's bytes
pub parts_length : (t : Tables) → length (bytes_of t)
    ≡ 4 + (length (section_bytes event_bytes t.events) + (length (section_bytes activity_bytes t.activities) + (2 + length (flat_map (lot_bytes t.steps) t.lots))))
parts_length t =
    let e = length-append (section_bytes event_bytes t.events) (section_bytes activity_bytes t.activities ++ section_bytes (lot_bytes t.steps) t.lots) in
    let a = length-append (section_bytes activity_bytes t.activities) (section_bytes (lot_bytes t.steps) t.lots) in
    omega (arith, e, a)

pub bytes_length : (t : Tables) → well_formed t ≡ true → length (bytes_of t) ≡ 10 + 8 * (length t.events + length t.activities) + 6 * length t.lots + 2 * length t.steps
bytes_length t h =
    let k = kept_of t h in
    let l = lots_length t.activities 0 t.lots t.steps t.steps k.lots refl in
    let e = joined_length event_bytes 8 (λ x. refl) t.events in
    let a = joined_length activity_bytes 8 (λ x. refl) t.activities in
    omega (arith, parts_length t, l, e, a)
