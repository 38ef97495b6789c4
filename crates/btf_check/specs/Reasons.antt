-- What is asked of a report of a matrix, in the order in which it is judged.
use Rattle.std.specs.Prelude.{◌≡◌, ℕ, List, ◌++◌, IfSome}
use Rattle.bip_defs.specs.Blocks.{AreBlocksOf, all_cols, all_rows}
use Rattle.bip_defs.specs.ConnectedComponents.{AreConnectedComponents}
use Rattle.bip_defs.specs.Lists.{AreDistinct, Lists}
use Rattle.bip_defs.specs.Matching.{IsMaximum, IsRank, rows_of}
use Rattle.bip_defs.specs.Matrix.{AreEntries, Matrix, Place}
use Rattle.bip_defs.specs.Once.{ListsOnce}
use Rattle.bip_defs.specs.Parts.{IsHorizontalCol, IsHorizontalRow, IsSquareCol, IsSquareRow, IsVerticalCol, IsVerticalRow}
use Rattle.bip_graph.specs.Texts.{Report, sizes_of}

-- each pair is an entry, and no two pairs share a row
pub record ArePaired (a : Matrix) (pairs : List Place) : Type 0 where
  pub entries : AreEntries a pairs
  pub rows_differ : AreDistinct (rows_of pairs)

-- the sizes, the rank and the coarse parts are those of the matrix; of the square part the blocks together have each row and column once
pub record TellsParts (a : Matrix) (r : Report) : Type 0 where
  pub sizes : r.sizes ≡ sizes_of a
  pub rank : IsRank a r.rank
  pub horizontal_rows : Lists (IsHorizontalRow a) r.horizontal_rows
  pub horizontal_cols : Lists (IsHorizontalCol a) r.horizontal_cols
  pub square_rows : ListsOnce (IsSquareRow a) (all_rows r.blocks)
  pub square_cols : ListsOnce (IsSquareCol a) (all_cols r.blocks)
  pub vertical_rows : Lists (IsVerticalRow a) r.vertical_rows
  pub vertical_cols : Lists (IsVerticalCol a) r.vertical_cols

-- an order goes through the horizontal part, the blocks and the vertical part
pub record AreOrdersOf (r : Report) (orders : List ℕ × List ℕ) : Type 0 where
  pub rows : orders.0 ≡ r.horizontal_rows ++ all_rows r.blocks ++ r.vertical_rows
  pub cols : orders.1 ≡ r.horizontal_cols ++ all_cols r.blocks ++ r.vertical_cols

-- the blocks and their order are those of the matrix, and the order lines, if there are any, go through them
pub record TellsBlocks (a : Matrix) (r : Report) : Type 0 where
  pub blocks : AreBlocksOf a r.blocks
  pub orders : IfSome r.orders (AreOrdersOf r)

-- what is asked of a report under each number: the reason of this number applies where it does not hold
pub record IsMet (a : Matrix) (r : Report) (k : ℕ) : Type 0 where
  pub pairs : k ≡ 2 → IfSome r.pairs (ArePaired a)
  pub maximum : k ≡ 3 → IfSome r.pairs (IsMaximum a)
  pub parts : k ≡ 4 → TellsParts a r
  pub blocks : k ≡ 5 → TellsBlocks a r
  pub components : k ≡ 6 → IfSome r.components (AreConnectedComponents a)
