-- The least so far, one more; and what remains as the greatest that fits.
use Rattle.std.proofs.Common.{◌≡◌, ℕ, zero, suc, ◌+◌, ◌≤◌, min, true, false, cond, leb, ◌⊎◌, refl, inl, inr, add-one, arith}
use Rattle.std.proofs.lemmas.Bool.{cases_Bool}
use Rattle.carry.specs.Laws.{LawfulRule, Remains}
use Rattle.model.specs.Finite.{low}
use Rattle.model.specs.Reserves.{greatest}
use Rattle.model.proofs.Reserves.{low_start, greatest_fits, greatest_most}

pub low_none : (x : ℕ) (f : ℕ → ℕ) → x ≡ low 0 f x
unfolding low
low_none x f = refl

pub low_more : (least x i more : ℕ) (f : ℕ → ℕ) → more ≡ f i → least ≡ low i f x → min least more ≡ low (i + 1) f x
unfolding low
low_more least x i more f m h = rw (add-one, m, h) refl

-- what is x again makes nothing lower
pub low_skip : (least x i : ℕ) (f : ℕ → ℕ) → f i ≡ x → least ≡ low i f x → least ≡ low (i + 1) f x
unfolding low
low_skip least x i f z h = let s = low_start i f x in rw (add-one, z, h) (omega arith)

greatest_under : (f : ℕ → ℕ) (r k : ℕ) → greatest f r k ≤ k
unfolding greatest
greatest_under f r zero = omega arith
greatest_under f r (suc k) = go (cases_Bool (leb (f (suc k)) r)) (greatest_under f r k)
  where
    go : (leb (f (suc k)) r ≡ true) ⊎ (leb (f (suc k)) r ≡ false) → greatest f r k ≤ k → cond (leb (f (suc k)) r) (suc k) (greatest f r k) ≤ suc k
    go (inl t) h = rw t (omega arith)
    go (inr t) h = rw t (omega arith)

-- what remains is the greatest
pub remains_is : (hands : ℕ → ℕ → ℕ) (margin allowance most : ℕ) → LawfulRule hands → Remains hands margin allowance most → most ≡ greatest (hands margin) allowance 1440
remains_is hands margin allowance most lawful r =
    let still = lawful.punctual margin in
    let up = greatest_most (hands margin) still allowance 1440 most r.bounded r.admissible in
    let down = r.greatest (greatest (hands margin) allowance 1440) (greatest_under (hands margin) allowance 1440) (greatest_fits (hands margin) still allowance 1440) in
    omega arith
