-- A set of numbers below a bound.
use Rattle.std.specs.Prelude.{ℕ, List}

-- the bound, and the members, rising
pub record Numbers : Type 0 where
  pub bound : ℕ
  pub members : List ℕ
