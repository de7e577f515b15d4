-- Pairs of express and ordinary parcel-minutes are lawful tolls, and what a lot pays in its class grows with the minutes.
use Rattle.std.specs.Prelude.{◌≡◌, ℕ, ◌*◌, ◌≤◌, true, refl}
use Rattle.std.proofs.Common.{mul-zero, mul-le-mul_left, arith}
use Rattle.std.proofs.lemmas.Bool.Decides.{nat_tests}
use Rattle.sheet.specs.declared.records.Class.{Class}
use Rattle.sheet.specs.declared.records.Class.TheVariants.{Ordinary, Express}
use Rattle.tariff.specs.Tolls.{LawfulTolls}
use Rattle.tariff.specs.Ranks.{ranked, ranks, rank_due}
use Rattle.tariff.specs.Numbers.{due_bulk}

pair_eq : {a b c d : ℕ} → a ≡ b → c ≡ d → ranks a c ≡ ranks b d
pair_eq p q = cc

pub ranked_lawful : LawfulTolls ranked
ranked_lawful = record {
  assoc = λ x y z. pair_eq (omega arith) (omega arith);
  comm = λ x y. pair_eq (omega arith) (omega arith);
  neutral = λ x. pair_eq (omega arith) (omega arith);
  total = λ x y h. grind (arith, nat_tests);
  trans = λ x y z h k. grind (arith, nat_tests);
  antisym = λ x y h k. pair_eq (grind (arith, nat_tests)) (grind (arith, nat_tests));
  shift = λ x y z h. grind (arith, nat_tests);
  light = refl;
  sum_bulk = λ x y. omega arith;
}

pub rank_none : (c : Class) (parcels : ℕ) → rank_due c parcels 0 ≡ ranked.nought
rank_none Ordinary parcels = pair_eq refl (mul-zero parcels)
rank_none Express parcels = pair_eq (mul-zero parcels) refl

pub rank_rising : (c : Class) (parcels less more : ℕ) → less ≤ more → ranked.at_most (rank_due c parcels less) (rank_due c parcels more) ≡ true
rank_rising Ordinary parcels less more h = let grows = mul-le-mul_left parcels h in grind (arith, nat_tests)
rank_rising Express parcels less more h = let grows = mul-le-mul_left parcels h in grind (arith, nat_tests)

pub rank_bulk : (c : Class) (parcels minutes : ℕ) → minutes ≤ 1440 → ranked.bulk (rank_due c parcels minutes) ≤ 1440 * parcels
rank_bulk Ordinary parcels minutes h = omega (arith, due_bulk parcels minutes h)
rank_bulk Express parcels minutes h = omega (arith, due_bulk parcels minutes h)
