-- The blocks of a matrix, as they are kept.
use Rattle.std.specs.Prelude.{◌≡◌, length}
use Rattle.bip_defs.specs.Matrix.{Matrix, cols}
use Rattle.integer_diagonal.specs.declared.blocks.PriceBlocks.{PriceBlocks}

-- each row and each column has a number
pub record AreBlocksOf (a : Matrix) (b : PriceBlocks) : Type 0 where
  pub of_rows : length b.of_row.items ≡ a.rows
  pub of_cols : length b.of_col.items ≡ cols a
