-- What is told of a square matrix of full rank.
use Rattle.std.specs.Prelude.{◌≡◌, ◌≢◌, ℕ, ◌+◌, ◌<◌, ◌≤◌, Bool, List, Option, None, Some, length, slice_index}
use Rattle.bip_defs.specs.Blocks.{block_at}
use Rattle.bip_defs.specs.Bottleneck.{IsFull}
use Rattle.bip_defs.specs.Decomposition.{Decomposition, IsDecompositionOf}
use Rattle.bip_defs.specs.Lists.{Among}
use Rattle.bip_defs.specs.Matching.{IsRank}
use Rattle.bip_defs.specs.Matrix.{IsEntry, Matrix, Place, cols}
use Rattle.bip_defs.specs.Once.{ListsOnce}
use Rattle.bip_graph.specs.Answers.{orders_of}
use Rattle.bip_graph.specs.Orders.{rows_before}
use Rattle.blocktri.specs.Answers.{AreBlockStarts, AreRowsOf, Fills}
use Rattle.blocktri.specs.Compressed.{CompressedLists, IsRoom, column_count, row_count}
use Rattle.blocktri.specs.Diagonal.{KeepsDiagonal}
use Rattle.blocktri.specs.Forms.{TellsIf}
use Rattle.blocktri.specs.declared.diagonal_order.SquareOrder.{SquareOrder}
use Rattle.blocktri.specs.declared.diagonal_order.SquareOrder.TheVariants.{Full, Singular, NotSquare}

-- the lists that the orders of a square matrix are written to
pub record OrderLists : Type 0 where
  pub row_order : List ℕ
  pub column_order : List ℕ
  pub block_starts : List ℕ
  pub row_of_column : List ℕ

abbrev pub order_lists : List ℕ → List ℕ → List ℕ → List ℕ → OrderLists
order_lists row_order column_order block_starts row_of_column = record {
  row_order = row_order;
  column_order = column_order;
  block_starts = block_starts;
  row_of_column = row_of_column;
}

-- the lists have room for each row, each column, each start and one more, and each column
pub record HaveOrderRoom (l : CompressedLists) (x : OrderLists) : Type 0 where
  pub row_order : IsRoom (row_count l) x.row_order
  pub column_order : IsRoom (column_count l) x.column_order
  pub block_starts : IsRoom (column_count l + 1) x.block_starts
  pub row_of_column : IsRoom (column_count l) x.row_of_column

-- each place of the rows has the mate of what stands there in the columns
abbrev pub AreMatesOf : List Place → List ℕ → List ℕ → Type 0
AreMatesOf pairs columns rows = (k : ℕ) → k < length columns
    → Among (slice_index rows k, slice_index columns k) pairs

-- an order of the rows in which the pairs stand on the diagonal, where the columns stand as in the
-- decomposition; in the places of each block are the rows of that block
pub record IsRowOrder (a : Matrix) (d : Decomposition) (pairs : List Place)
    (rows : List ℕ) : Type 0 where
  pub once : ListsOnce (λ r. r < a.rows) rows
  pub diagonal : AreMatesOf pairs (orders_of d).1 rows
  pub of_blocks : (b k : ℕ) → b < length d.blocks → rows_before d.blocks b ≤ k
      → k < rows_before d.blocks (b + 1) → Among (slice_index rows k) (block_at d.blocks b).rows

-- the orders of rows and columns, where the blocks start, and how many there are
pub record TellsBlockOrder (a : Matrix) (pairs : List Place) (count : Option ℕ)
    (old new : OrderLists) : Type 0 where
  pub decomposition : Decomposition
  pub is_decomposition : IsDecompositionOf a decomposition
  pub count_is : count ≡ Some (length decomposition.blocks)
  pub rows : Fills old.row_order new.row_order (IsRowOrder a decomposition pairs new.row_order)
  pub columns : Fills old.column_order new.column_order
      (new.column_order ≡ (orders_of decomposition).1)
  pub starts : Fills old.block_starts new.block_starts
      (AreBlockStarts decomposition.blocks old.block_starts new.block_starts)

-- the orders and the starts are as they were, and no number of blocks is told
pub record LeavesOrders (count : Option ℕ) (old new : OrderLists) : Type 0 where
  pub count_is : count ≡ None
  pub rows : new.row_order ≡ old.row_order
  pub columns : new.column_order ≡ old.column_order
  pub starts : new.block_starts ≡ old.block_starts

-- a perfect matching that keeps a full diagonal, and the orders where they are wanted
pub record TellsFullRank (a : Matrix) (wanted : Bool) (count : Option ℕ)
    (old new : OrderLists) : Type 0 where
  pub pairs : List Place
  pub perfect : IsFull a pairs
  pub diagonal : KeepsDiagonal a pairs
  pub mates : Fills old.row_of_column new.row_of_column (AreRowsOf pairs new.row_of_column)
  pub orders : TellsIf wanted (TellsBlockOrder a pairs count old new) (LeavesOrders count old new)

-- the matrix is square, and its rank, which is this, is less than its size
pub record IsSingular (a : Matrix) (rank : ℕ) : Type 0 where
  pub square : a.rows ≡ cols a
  pub rank_is : IsRank a rank
  pub below : rank < a.rows

-- by what the matrix is: its orders, or its rank where that is less than its size, or that it is not
-- square; nothing is written but for a matrix of full rank
abbrev pub TellsSquare : Matrix → Bool → SquareOrder → OrderLists → OrderLists → Type 0
TellsSquare a wanted (Full count) old new = (a.rows ≡ cols a) × TellsFullRank a wanted count old new
TellsSquare a wanted (Singular rank) old new = IsSingular a rank × (new ≡ old)
TellsSquare a wanted NotSquare old new = (a.rows ≢ cols a) × (new ≡ old)

-- the place is one of the block of this number
pub record IsInBlock (count : ℕ) (block_starts : List ℕ) (b k : ℕ) : Type 0 where
  pub block : b < count
  pub from : slice_index block_starts b ≤ k
  pub to : k < slice_index block_starts (b + 1)

-- of no entry, at the places that the orders give its row and its column, is the row in a later
-- block than the column
abbrev pub IsUpperByBlocks : Matrix → ℕ → List ℕ → List ℕ → List ℕ → Type 0
IsUpperByBlocks a count row_order column_order block_starts = (i j b c : ℕ)
    → IsInBlock count block_starts b i → IsInBlock count block_starts c j
    → IsEntry a (slice_index row_order i) (slice_index column_order j) → b ≤ c

-- an order of the rows of a square matrix of full rank, and where the blocks start
pub record IsSquareOrder (a : Matrix) (d : Decomposition) (pairs : List Place)
    (rows old starts : List ℕ) : Type 0 where
  pub square : a.rows ≡ cols a
  pub perfect : IsFull a pairs
  pub is_decomposition : IsDecompositionOf a d
  pub order : IsRowOrder a d pairs rows
  pub starts_are : AreBlockStarts d.blocks old starts

-- the lists have room for the orders of a square matrix of size n
pub record IsOrderRoom (n : ℕ) (x : OrderLists) : Type 0 where
  pub row_order : IsRoom n x.row_order
  pub column_order : IsRoom n x.column_order
  pub block_starts : IsRoom (n + 1) x.block_starts
  pub row_of_column : IsRoom n x.row_of_column
