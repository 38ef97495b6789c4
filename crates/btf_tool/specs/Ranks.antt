-- What `rank` finds of a matrix.
use Rattle.std.specs.Prelude.{ℕ, List}
use Rattle.bip_defs.specs.Lists.{Lists}
use Rattle.bip_defs.specs.Matching.{IsRank}
use Rattle.bip_defs.specs.Matrix.{Matrix}
use Rattle.bip_defs.specs.Parts.{IsHorizontalCol, IsHorizontalRow}

-- its rank, and its horizontal part
pub record IsRankOf (a : Matrix) (rank : ℕ) (rows cols : List ℕ) : Type 0 where
  pub is_rank : IsRank a rank
  pub are_rows : Lists (IsHorizontalRow a) rows
  pub are_cols : Lists (IsHorizontalCol a) cols
