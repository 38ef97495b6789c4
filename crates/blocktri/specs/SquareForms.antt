-- The form of a square matrix of full rank.
use Rattle.std.specs.Prelude.{◌≡◌, ℕ, ◌<◌, ◌≤◌, ◌^◌, List, [], ◌∷◌, length, slice_index}
use Rattle.bip_defs.specs.Blocks.{Block, all_cols, all_rows}
use Rattle.bip_defs.specs.Bottleneck.{IsFull}
use Rattle.bip_defs.specs.Decomposition.{Decomposition}
use Rattle.bip_defs.specs.Lists.{Among}
use Rattle.bip_defs.specs.Matrix.{Matrix, Place, cols, upto}
use Rattle.dm_fine.specs.declared.square.SquareBlocks.{SquareBlocks}
use Rattle.dm_fine.specs.declared.square.SquareBlocks.TheVariants.{One, Several}
use Rattle.filled_columns.specs.Filled.{all_square}
use Rattle.square_components.specs.Part.{IsSquarePart}

-- the blocks of a square matrix of size n: one has all rows and columns
abbrev pub block_list : ℕ → SquareBlocks → List Block
block_list n One = record { rows = upto n; cols = upto n } ∷ []
block_list n (Several blocks) = blocks

-- blocks that have together n rows and n columns, and are not more than these
pub record AreBlocksOfSize (n : ℕ) (blocks : List Block) : Type 0 where
  pub few : n < 2 ^ 32
  pub rows : length (all_rows blocks) ≡ n
  pub columns : length (all_cols blocks) ≡ n
  pub count : length blocks ≤ n

-- the decomposition of a square matrix of size n and of full rank
abbrev pub square_decomposition : ℕ → List Block → Decomposition
square_decomposition n blocks = record { rank = n; parts = all_square n; blocks = blocks }

-- the square part is the whole matrix, and the pairs are a perfect matching of it
pub record IsWhole (a : Matrix) (rows columns : List ℕ) (pairs : List Place) : Type 0 where
  pub part : IsSquarePart a rows columns pairs
  pub rows_are : rows ≡ upto a.rows
  pub columns_are : columns ≡ upto (cols a)
  pub square : a.rows ≡ cols a
  pub perfect : IsFull a pairs

-- each place of the columns has the mate of what stands there in the rows
abbrev pub AreMatesOfRows : List Place → List ℕ → List ℕ → Type 0
AreMatesOfRows pairs rows columns = (k : ℕ) → k < length rows
    → Among (slice_index rows k, slice_index columns k) pairs
