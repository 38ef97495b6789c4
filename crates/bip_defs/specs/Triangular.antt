-- The block upper triangular form, and what is said of its diagonal blocks.
use Rattle.std.specs.Prelude.{ℕ, ◌<◌, ◌≤◌, List, [], ◌∷◌, ◌++◌, length}
use Rattle.bip_defs.specs.Blocks.{Block, all_cols, all_rows, block_at}
use Rattle.bip_defs.specs.Decomposition.{Decomposition}
use Rattle.bip_defs.specs.Lists.{Among, AreDistinct}
use Rattle.bip_defs.specs.Matrix.{IsEntry, Matrix, Place, cols}
use Rattle.bip_defs.specs.Once.{ListsOnce}

-- the diagonal blocks of a decomposition in their order: the horizontal part, the fine blocks, the vertical part
abbrev pub diagonal_blocks : Decomposition → List Block
diagonal_blocks d = record { rows = d.parts.horizontal_rows; cols = d.parts.horizontal_cols }
    ∷ d.blocks ++ record { rows = d.parts.vertical_rows; cols = d.parts.vertical_cols } ∷ []

-- each row and each column is in one block, and no entry's row is in a later block than its column
pub record IsBlockUpperTriangular (a : Matrix) (bs : List Block) : Type 0 where
  pub rows : ListsOnce (λ r. r < a.rows) (all_rows bs)
  pub cols : ListsOnce (λ c. c < cols a) (all_cols bs)
  pub entries : (r c i j : ℕ) → IsEntry a r c → Among r (block_at bs i).rows
      → Among c (block_at bs j).cols → i ≤ j

-- the pairs lead from each row of the block to a column of it, and from each column to a row
pub record PairUp (m : List Place) (b : Block) : Type 0 where
  pub rows : (r : ℕ) → Among r b.rows → (c : ℕ) × Among (r, c) m × Among c b.cols
  pub cols : (c : ℕ) → Among c b.cols → (r : ℕ) × Among (r, c) m × Among r b.rows

-- a row of the block that has an entry in one of these columns
abbrev pub IsRowOver : Matrix → Block → List ℕ → ℕ → Type 0
IsRowOver a b w r = Among r b.rows × (c : ℕ) × Among c w × IsEntry a r c

-- some of the block's columns, and not all of them
pub record IsProperPart (b : Block) (w : List ℕ) : Type 0 where
  pub distinct : AreDistinct w
  pub within : (c : ℕ) → Among c w → Among c b.cols
  pub some : 0 < length w
  pub fewer : length w < length b.cols
