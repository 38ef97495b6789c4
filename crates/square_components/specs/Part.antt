-- The square part of a matrix with the pairs of a maximum matching.
use Rattle.std.specs.Prelude.{◌≡◌, ℕ, ◌<◌, ◌^◌, List, length, map}
use Rattle.bip_defs.specs.Lists.{Lists}
use Rattle.bip_defs.specs.Matching.{IsMaximum}
use Rattle.bip_defs.specs.Matrix.{Matrix, Place, upto}
use Rattle.bip_defs.specs.Parts.{IsSquareCol, IsSquareRow}

-- these are the rows and the columns of the square part, as many of each, and the pairs of a maximum matching
pub record IsSquarePart (a : Matrix) (rows cols : List ℕ) (pairs : List Place) : Type 0 where
  pub square_rows : Lists (IsSquareRow a) rows
  pub square_cols : Lists (IsSquareCol a) cols
  pub maximum : IsMaximum a pairs
  pub same : length rows ≡ length cols
  pub few : length rows < 2 ^ 32

-- the first n places of the diagonal
abbrev pub diagonal : ℕ → List Place
diagonal n = map (λ k. (k, k)) (upto n)
