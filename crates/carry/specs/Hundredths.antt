-- Parts of a hundred, rounded down: how they grow, and the greatest number whose part stays within an allowance.
use Rattle.std.specs.Prelude.{◌≡◌, ℕ, ◌+◌, ◌-◌, ◌*◌, ◌/◌, ◌<◌, ◌≤◌, min}
use Rattle.std.proofs.Common.{mul-le-mul_right, mul-le-mul_left, div-mul-le_self, arith}
use Rattle.std.proofs.lemmas.Nat.{le-div}
use Rattle.carry.specs.Laws.{Remains}
use Rattle.carry.specs.Handed.{shared}

pub part_rising : (part less more : ℕ) → less ≤ more → less * part / 100 ≤ more * part / 100
part_rising part less more h = omega (arith, mul-le-mul_right part h)

pub part_le : (part n : ℕ) → part ≤ 100 → n * part / 100 ≤ n
part_le part n h = omega (arith, mul-le-mul_left n h)

-- a part is at most the allowance exactly when it is less than one above it, in hundredths
part_back : (part allowance n : ℕ) → n ≤ (allowance * 100 + 99) / part → n * part / 100 ≤ allowance
part_back part allowance n h = omega (arith, mul-le-mul_right part h, div-mul-le_self (allowance * 100 + 99) part)

part_greatest : (part allowance n : ℕ) → 0 < part → n * part / 100 ≤ allowance → n ≤ (allowance * 100 + 99) / part
part_greatest part allowance n p h = le-div n (allowance * 100 + 99) part p (omega arith)

pub part_remains : (margin allowance most : ℕ) → 0 < 100 - margin → most ≡ min ((allowance * 100 + 99) / (100 - margin)) 1440 → Remains shared margin allowance most
part_remains margin allowance most some is = record {
  bounded = omega arith;
  admissible = part_back (100 - margin) allowance most (omega arith);
  greatest = λ lateness short h. omega (arith, part_greatest (100 - margin) allowance lateness some h);
}
