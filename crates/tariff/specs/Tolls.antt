-- Tolls: what is charged, summed and compared.
--
--   Tolls          a kind of toll: its nought, its sum, its order, and how bulky a toll is
--   LawfulTolls    what every kind of toll keeps, for all its tolls
--   numbers        whole numbers as tolls
--   cap            the most bulk that two tolls may have together to be summed
use Rattle.std.specs.Prelude.{◌≡◌, ℕ, ◌+◌, ◌^◌, ◌≤◌, Bool, true, false, leb}

pub record Tolls (A : Type 0) : Type 0 where
  pub nought : A
  pub plus : A → A → A
  pub at_most : A → A → Bool
  pub bulk : A → ℕ

pub record LawfulTolls {A : Type 0} (t : Tolls A) : Type 0 where
  -- the sum is associative and commutative, and nought adds nothing
  pub assoc : (x y z : A) → t.plus (t.plus x y) z ≡ t.plus x (t.plus y z)
  pub comm : (x y : A) → t.plus x y ≡ t.plus y x
  pub neutral : (x : A) → t.plus t.nought x ≡ x
  -- any two tolls compare, the order is transitive, and tolls each at most the other are equal
  pub total : (x y : A) → t.at_most x y ≡ false → t.at_most y x ≡ true
  pub trans : (x y z : A) → t.at_most x y ≡ true → t.at_most y z ≡ true → t.at_most x z ≡ true
  pub antisym : (x y : A) → t.at_most x y ≡ true → t.at_most y x ≡ true → x ≡ y
  -- adding one toll to both sides keeps the order; it need not be won back by taking it away
  pub shift : (x y z : A) → t.at_most x y ≡ true → t.at_most (t.plus x z) (t.plus y z) ≡ true
  -- nought has no bulk, and a sum no more than its parts
  pub light : t.bulk t.nought ≡ 0
  pub sum_bulk : (x y : A) → t.bulk (t.plus x y) ≤ t.bulk x + t.bulk y

abbrev pub numbers : Tolls ℕ
numbers = record { nought = 0; plus = ◌+◌; at_most = leb; bulk = λ x. x }

abbrev pub cap : ℕ
cap = 2 ^ 40
