-- Orders of a square matrix by pairs that stand on the diagonal, entries or not.
use Rattle.std.specs.Prelude.{◌≡◌, ◌≢◌, ℕ, ◌+◌, ◌<◌, ◌≤◌, Bool, true, List, [], Option, None, Some, IfNone, IfSome, length, slice_index}
use Rattle.bip_defs.specs.Blocks.{Block, all_rows, block_at}
use Rattle.bip_defs.specs.Decomposition.{Decomposition, IsDecompositionOf}
use Rattle.bip_defs.specs.Lists.{Among}
use Rattle.bip_defs.specs.Matching.{IsMaximum}
use Rattle.bip_defs.specs.Matrix.{Matrix, Place, cols}
use Rattle.bip_defs.specs.Once.{ListsOnce}
use Rattle.bip_graph.specs.Matching.{IsMaximumOf, Pairing}
use Rattle.bip_graph.specs.Orders.{rows_before}
use Rattle.blocktri.specs.Answers.{AreBlockStarts, AreRowsOf, Fills}
use Rattle.blocktri.specs.BlockOrders.{AreMatesOf, LeavesOrders, OrderLists}
use Rattle.blocktri.specs.Diagonal.{KeepsDiagonal}
use Rattle.blocktri.specs.SquareForms.{square_decomposition}
use Rattle.blocktri.specs.Forms.{TellsIf}
use Rattle.blocktri.specs.declared.completed_orders.PairedOrder.{PairedOrder}
use Rattle.blocktri.specs.declared.completed_orders.PairedOrder.TheVariants.{Square, NotSquare}
use Rattle.filled_columns.specs.Completed.{Completes}
use Rattle.filled_columns.specs.Filled.{IsFullPairing, filled}

-- pairs that have each row and each column once, and the blocks of the matrix filled with them
pub record ArePairedBlocks (a : Matrix) (m : Pairing) (blocks : List Block) : Type 0 where
  pub full : IsFullPairing a m
  pub decomposition : IsDecompositionOf (filled a m.pairs) (square_decomposition a.rows blocks)

-- an order of the columns in which the pairs stand on the diagonal, where the rows stand block by
-- block; in the places of each block are the columns of that block
pub record IsPairedColumnOrder (a : Matrix) (blocks : List Block) (pairs : List Place)
    (columns : List ℕ) : Type 0 where
  pub once : ListsOnce (λ c. c < cols a) columns
  pub diagonal : AreMatesOf pairs columns (all_rows blocks)
  pub of_blocks : (b k : ℕ) → b < length blocks → rows_before blocks b ≤ k
      → k < rows_before blocks (b + 1) → Among (slice_index columns k) (block_at blocks b).cols

-- orders in which the pairs stand on the diagonal, in the blocks of the matrix filled with them, of
-- which there are so many; the rows of each block rise
pub record TellsPairedOrder (a : Matrix) (m : Pairing) (count : ℕ) (old new : OrderLists)
    : Type 0 where
  pub blocks : List Block
  pub are_blocks : ArePairedBlocks a m blocks
  pub count_is : count ≡ length blocks
  pub rows : Fills old.row_order new.row_order (new.row_order ≡ all_rows blocks)
  pub columns : Fills old.column_order new.column_order
      (IsPairedColumnOrder a blocks m.pairs new.column_order)
  pub starts : Fills old.block_starts new.block_starts
      (AreBlockStarts blocks old.block_starts new.block_starts)

-- the three lists of an order are wanted
pub record HasAllLists (x : OrderLists) : Type 0 where
  pub rows : length x.row_order ≢ 0
  pub columns : length x.column_order ≢ 0
  pub starts : length x.block_starts ≢ 0

-- the pairs completed, and the orders in which these stand on the diagonal
pub record TellsCompletedBlocks (a : Matrix) (pairs : List Place) (count : Option ℕ)
    (old new : OrderLists) : Type 0 where
  pub full : Pairing
  pub completes : Completes a pairs full.pairs
  pub blocks : ℕ
  pub count_is : count ≡ Some blocks
  pub orders : TellsPairedOrder a full blocks old new

-- of a square matrix its rank, a maximum matching that keeps a full diagonal, and where they are
-- wanted the orders
pub record TellsCompletedOrder (a : Matrix) (wanted : Bool) (rank : ℕ) (count : Option ℕ)
    (old new : OrderLists) : Type 0 where
  pub square : a.rows ≡ cols a
  pub pairs : List Place
  pub maximum : IsMaximum a pairs
  pub rank_is : rank ≡ length pairs
  pub diagonal : KeepsDiagonal a pairs
  pub mates : Fills old.row_of_column new.row_of_column (AreRowsOf pairs new.row_of_column)
  pub orders : TellsIf wanted (TellsCompletedBlocks a pairs count old new)
      (LeavesOrders count old new)

-- by what the matrix is: its orders, or that it is not square; then nothing is written
abbrev pub TellsCompleted : Matrix → Bool → PairedOrder → OrderLists → OrderLists → Type 0
TellsCompleted a wanted (Square rank count) old new = TellsCompletedOrder a wanted rank count old new
TellsCompleted a wanted NotSquare old new = (a.rows ≢ cols a) × (new ≡ old)

-- the pairs with all rows and columns: the matching's own where none are completed
abbrev pub full_pairs : Option Pairing → Pairing → Pairing
full_pairs None matching = matching
full_pairs (Some full) matching = full

-- the completed pairs of a matching, and their blocks
pub record AreCompletedBlocks (a : Matrix) (m : Pairing) (completed : Option Pairing)
    (blocks : List Block) : Type 0 where
  pub completes : Completes a m.pairs (full_pairs completed m).pairs
  pub are_blocks : ArePairedBlocks a (full_pairs completed m) blocks

-- of a square matrix a maximum matching that keeps a full diagonal, and the blocks exactly where
-- they are wanted
pub record IsCompletedOf (a : Matrix) (wanted : Bool) (m : Pairing) (completed : Option Pairing)
    (blocks : Option (List Block)) : Type 0 where
  pub square : a.rows ≡ cols a
  pub maximum : IsMaximumOf a m
  pub diagonal : KeepsDiagonal a m.pairs
  pub some : IfSome blocks (λ bs. (wanted ≡ true) × AreCompletedBlocks a m completed bs)
  pub none : IfNone blocks (wanted ≢ true)
