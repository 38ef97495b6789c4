-- Perfect matchings, and matrices that have none.
use Rattle.std.specs.Prelude.{◌≡◌, ◌≢◌, ◌⊎◌, ℕ, ◌<◌, List, length}
use Rattle.bip_defs.specs.Bottleneck.{IsFull}
use Rattle.bip_defs.specs.Matrix.{Matrix, Place, cols}
use Rattle.bip_graph.specs.Matching.{IsMaximumOf, Pairing}

-- a matching of a square matrix that has a pair for each row
pub record IsPerfectMatching (a : Matrix) (m : Pairing) : Type 0 where
  pub maximum : IsMaximumOf a m
  pub square : a.rows ≡ cols a
  pub full : length m.pairs ≡ a.rows

-- no matching of the matrix covers all its rows and columns
abbrev pub HasNoPerfectMatching : Matrix → Type 0
HasNoPerfectMatching a = (m : List Place) → ¬ IsFull a m

-- the matrix is not square, or its rank, which is this, is less than its size
abbrev pub IsBelowFullRank : Matrix → ℕ → Type 0
IsBelowFullRank a rank = (a.rows ≢ cols a) ⊎ (rank < a.rows)
