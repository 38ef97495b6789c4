-- Orders of a square matrix by pairs that a caller gives.
use Rattle.std.specs.Prelude.{◌≡◌, ◌≢◌, ℕ, ◌<◌, List, [], IfErr, IfOk, Result, length, slice_index}
use Rattle.bip_defs.specs.Lists.{Among}
use Rattle.bip_defs.specs.Matching.{rows_of}
use Rattle.bip_defs.specs.Matrix.{Matrix, cols}
use Rattle.bip_graph.specs.Matching.{Pairing}
use Rattle.blocktri.specs.Answers.{AreRowsOf}
use Rattle.blocktri.specs.BlockOrders.{HaveOrderRoom, OrderLists, order_lists}
use Rattle.blocktri.specs.Causes.{IsRefusal}
use Rattle.blocktri.specs.Compressed.{AreCompressed, CompressedLists, column_count, row_count}
use Rattle.blocktri.specs.PairedOrders.{TellsPairedOrder}
use Rattle.blocktri.specs.declared.given_orders.OrderBy.{OrderBy}
use Rattle.blocktri.specs.declared.given_orders.OrderBy.TheVariants.{Ordered, NotSquare}
use Rattle.blocktri.specs.declared.pairing_refusals.PairingRefusal.{PairingRefusal}
use Rattle.blocktri.specs.declared.pairing_refusals.PairingRefusal.TheVariants.{Lists, BadPair}
use Rattle.blocktri.specs.declared.refusals.Refusal.TheVariants.{Columns}
use Rattle.sp_pattern.specs.declared.columns.ColumnsError.TheVariants.{OutOfMemory as NoMemory}

-- the lists of a call that writes no mates
abbrev pub lists_without_mates : List ℕ → List ℕ → List ℕ → OrderLists
lists_without_mates row_order column_order block_starts = order_lists row_order column_order block_starts []

-- the lists to be written have room, and there is one number for each column
pub record HavePairingRoom (l : CompressedLists) (row_of_column : List ℕ) (x : OrderLists)
    : Type 0 where
  pub lists : HaveOrderRoom l x
  pub pairs : length row_of_column ≡ column_count l

-- the number at this place is that of a row, and stands at no place before
pub record IsOwnRow (rows : ℕ) (row_of_column : List ℕ) (c : ℕ) : Type 0 where
  pub below : slice_index row_of_column c < rows
  pub new : (d : ℕ) → d < c → slice_index row_of_column d ≢ slice_index row_of_column c

abbrev pub AreOwnRows : ℕ → List ℕ → ℕ → Type 0
AreOwnRows rows row_of_column n = (c : ℕ) → c < n → IsOwnRow rows row_of_column c

-- the first place whose number is not right
pub record IsNotOwnRow (rows : ℕ) (row_of_column : List ℕ) (c : ℕ) : Type 0 where
  pub within : c < length row_of_column
  pub before : AreOwnRows rows row_of_column c
  pub wrong : ¬ IsOwnRow rows row_of_column c

-- the pairs of a list that has the row of each column
pub record ArePairsOf (rows : ℕ) (row_of_column : List ℕ) (m : Pairing) : Type 0 where
  pub right : AreOwnRows rows row_of_column (length row_of_column)
  pub pairs : AreRowsOf m.pairs row_of_column

-- each number of the list is right, and the orders by its pairs
pub record TellsOrderedBy (a : Matrix) (row_of_column : List ℕ) (count : ℕ)
    (old new : OrderLists) : Type 0 where
  pub pairs : Pairing
  pub are_pairs : ArePairsOf a.rows row_of_column pairs
  pub orders : TellsPairedOrder a pairs count old new

-- by what the matrix is: the orders by the pairs, or that it is not square; then nothing is written
abbrev pub TellsOrderBy : Matrix → List ℕ → OrderBy → OrderLists → OrderLists → Type 0
TellsOrderBy a row_of_column (Ordered count) old new = TellsOrderedBy a row_of_column count old new
TellsOrderBy a row_of_column NotSquare old new = (a.rows ≢ cols a) × (new ≡ old)

-- a length, the lists of the matrix or the memory, as in the other calls; a pair is at fault where
-- all lengths and the lists of the matrix are right and it is square
abbrev pub IsPairingRefusal : Type 0 → CompressedLists → List ℕ → PairingRefusal → Type 0
IsPairingRefusal Fit l row_of_column (Lists refusal) = IsRefusal Fit l.others l.starts l.ids refusal
IsPairingRefusal Fit l row_of_column (BadPair c) = Fit × AreCompressed l
    × (row_count l ≡ column_count l) × IsNotOwnRow (row_count l) row_of_column c

-- a refusal has its cause, and an answer comes only where all lengths are right
pub record RefusesPairing {S : Type 0} (Fit : Type 0) (l : CompressedLists) (row_of_column : List ℕ)
    (result : Result S PairingRefusal) : Type 0 where
  pub fit : IfOk result (λ s. Fit)
  pub cause : IfErr result (IsPairingRefusal Fit l row_of_column)

-- why a list is no pairing: a number of it is not right, or there was not enough memory
abbrev pub IsNoPairing : ℕ → List ℕ → PairingRefusal → Type 0
IsNoPairing rows row_of_column (Lists refusal) = refusal ≡ Columns NoMemory
IsNoPairing rows row_of_column (BadPair c) = IsNotOwnRow rows row_of_column c

-- the number is that of a row that has no mate
abbrev pub IsFreeRow : Pairing → ℕ → Type 0
IsFreeRow m number = (number < m.rows) × (¬ Among number (rows_of m.pairs))
