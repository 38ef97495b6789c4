-- Amounts, in numbers of 64 or of 128 bits.
use Rattle.std.specs.Prelude.{◌≡◌, ℕ, ◌+◌, ◌-◌, ◌*◌, ◌<◌, ◌≤◌, nat_lt, if◌then◌else◌}
use Rattle.std.proofs.Common.{arith}
use Rattle.std.proofs.lemmas.Bool.Decides.{nat_tests}

-- stands for no distance
abbrev pub infinity : ℕ
infinity = 340282366920938463463374607431768211455

abbrev pub greatest_of_64 : ℕ
greatest_of_64 = 18446744073709551615

-- what a number of 64 bits stands for: the greatest for no distance, each other for itself
abbrev pub amount_of_64 : ℕ → ℕ
amount_of_64 n = if nat_lt n greatest_of_64 then n else n + (infinity - greatest_of_64)

-- the number of 64 bits that stands for an amount
abbrev pub number_of_64 : ℕ → ℕ
number_of_64 n = if nat_lt n greatest_of_64 then n else n - (infinity - greatest_of_64)

pub number_of_amount : (n : ℕ) → number_of_64 (amount_of_64 n) ≡ n
number_of_amount n = grind (arith, nat_tests)

-- where a matrix has so many columns, and no entry weighs more than `top`, the sums of a search are less than the limit
abbrev pub HasRoom : ℕ → ℕ → ℕ → Type 0
HasRoom columns top limit = 3 * (columns * top) + 4 * top < limit

-- an entry of this weight, in a row at this price and a column with this dual variable, leads to a distance from this depth: no
-- sum is too great, and no difference is below nothing
pub record HasDistance (limit top price weight dual depth : ℕ) : Type 0 where
  pub small : weight ≤ top
  pub covers : dual ≤ price + (top - weight)
  pub priced : price + (top - weight) < limit
  pub fits : depth + (price + (top - weight) - dual) < limit
