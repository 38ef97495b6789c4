-- The unmatched rest, as the start keeps it.
use Rattle.std.specs.Prelude.{◌≡◌, ℕ, ◌<◌, ◌≤◌}
use Rattle.bip_defs.specs.Matching.{transposed_places}
use Rattle.bip_defs.specs.Matrix.{cols, Matrix, Place, transpose}
use Rattle.bip_defs.specs.Start.{IsFree}
use Rattle.karp_sipser.specs.NeighbourSums.{AreSums, HoldsOnes, HoldsOnesBut}
use Rattle.karp_sipser.specs.declared.rest.Rest.{Rest}

-- the sums are those of the matching, and no column before next_col has a free entry
pub record IsUnmatchedRest (a : Matrix) (rest : Rest) : Type 0 where
  pub same_rows : rest.matching.rows ≡ a.rows
  pub same_cols : rest.matching.cols ≡ cols a
  pub cols_sums : AreSums a rest.matching.pairs rest.cols
  pub rows_sums : AreSums (transpose a) (transposed_places rest.matching.pairs) rest.rows
  pub passed : rest.next_col ≤ cols a
  pub below : (r c : ℕ) → c < rest.next_col → ¬ IsFree a rest.matching.pairs r c

-- the sets hold each row and column with exactly one unmatched neighbour
pub record HasOnes (a : Matrix) (rest : Rest) : Type 0 where
  pub of_cols : HoldsOnes a rest.matching.pairs rest.cols.of_one.members
  pub of_rows : HoldsOnes (transpose a) (transposed_places rest.matching.pairs)
      rest.rows.of_one.members

-- the sets hold each row and column with exactly one unmatched neighbour, but for those of a place
pub record HasOnesBut (p : Place) (a : Matrix) (rest : Rest) : Type 0 where
  pub of_cols : HoldsOnesBut p.1 a rest.matching.pairs rest.cols.of_one.members
  pub of_rows : HoldsOnesBut p.0 (transpose a) (transposed_places rest.matching.pairs)
      rest.rows.of_one.members
