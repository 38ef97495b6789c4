-- Lists that have each number of a kind once, in any order.
use Rattle.std.specs.Prelude.{ℕ, List}
use Rattle.bip_defs.specs.Lists.{Among, AreDistinct}

-- the numbers that have P, each once
pub record ListsOnce (P : ℕ → Type 0) (xs : List ℕ) : Type 0 where
  pub distinct : AreDistinct xs
  pub sound : (x : ℕ) → Among x xs → P x
  pub complete : (x : ℕ) → P x → Among x xs
