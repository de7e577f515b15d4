-- A sum that is formed one by one, and the room that weights leave.
use Rattle.std.proofs.Common.{◌≡◌, ℕ, zero, suc, ◌+◌, ◌*◌, ◌<◌, ◌≤◌, ◌⊎◌, refl, ap, ◌∙◌, inl, inr, suc-mul, add-one, arith}
use Rattle.std.proofs.lemmas.Bool.{cases_eq}
use Rattle.tariff.specs.Tolls.{Tolls, LawfulTolls, numbers}
use Rattle.sums.specs.Totals.{total}

module _ {A : Type 0} (t : Tolls A) where
  pub total_none : (f : ℕ → A) → t.nought ≡ total t 0 f
  unfolding total
  total_none f = refl

  pub nought_light : LawfulTolls t → (w : ℕ → ℕ) (s : A) → s ≡ t.nought → t.bulk s ≤ total numbers 0 w
  nought_light laws w s is = omega (arith, laws.light, ap t.bulk is)

  pub plus_light : LawfulTolls t → (sum due r : A) (weight : ℕ) → r ≡ t.plus sum due → t.bulk due ≤ weight → t.bulk r ≤ t.bulk sum + weight
  plus_light laws sum due r weight is light = omega (arith, laws.sum_bulk sum due, ap t.bulk is)

  pub total_more : (f : ℕ → A) (k : ℕ) (s r : A) → s ≡ total t k f → r ≡ t.plus s (f k) → r ≡ total t (k + 1) f
  unfolding total
  total_more f k s r is more = rw add-one (more ∙ ap (λ x. t.plus x (f k)) is)

-- a part of a sum of numbers is no more than the sum
numbers_rising : (w : ℕ → ℕ) (k n : ℕ) → k ≤ n → total numbers k w ≤ total numbers n w
unfolding total
numbers_rising w k zero h = let e : k ≡ 0 = omega arith in rw e (omega arith)
numbers_rising w k (suc n) h = go (cases_eq k (suc n)) (numbers_rising w k n)
  where
    go : (k ≡ suc n) ⊎ (k ≡ suc n → ⊥) → (k ≤ n → total numbers k w ≤ total numbers n w) → total numbers k w ≤ total numbers n w + w n
    go (inl e) r = let same = ap (λ j. total numbers j w) e in omega arith
    go (inr ne) r = let below = r (omega arith) in omega arith

-- so many numbers, each within a bound
pub numbers_bound : (w : ℕ → ℕ) (n each : ℕ) → ((i : ℕ) → i < n → w i ≤ each) → total numbers n w ≤ n * each
unfolding total
numbers_bound w zero each h = omega arith
numbers_bound w (suc n) each h = omega (arith, numbers_bound w n each (λ i k. h i (omega arith)), h n (omega arith), suc-mul n each)

-- room for one weight more
pub weight_fits : (w : ℕ → ℕ) (n k most bulk : ℕ) → total numbers n w ≤ most → k < n → bulk ≤ total numbers k w → bulk + w k ≤ most
unfolding total
weight_fits w n k most bulk room h light =
    let one_more : total numbers (suc k) w ≤ total numbers n w = numbers_rising w (suc k) n (omega arith) in
    omega arith

-- one weight more
pub weight_more : (w : ℕ → ℕ) (k before after : ℕ) → before ≤ total numbers k w → after ≤ before + w k → after ≤ total numbers (k + 1) w
unfolding total
weight_more w k before after light more = rw add-one (omega arith)
