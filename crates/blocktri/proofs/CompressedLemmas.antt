-- What the matrix that is given has: its rows, its columns, and its entries.
use Rattle.std.proofs.Common.{◌≡◌, ◌↔◌, ℕ, ◌-◌, ◌^◌, ◌<◌, Bool, true, false, length, ap, refl, arith}
use Rattle.bip_defs.specs.Matrix.{IsEntry, IsTransposeOf, Matrix, cols, transpose}
use Rattle.bip_defs.proofs.Sets.{upto_mapped}
use Rattle.bip_defs.proofs.Transposed.{transpose_back, transpose_cols, transpose_is}
use Rattle.sp_pattern.specs.Columns.{rows_given}
use Rattle.blocktri.specs.Compressed.{AreCompressed, CompressedLists, column_count, listed, matrix_given, pick, row_count, transpose_if}
use Rattle.blocktri.specs.Diagonal.{IsDiagonalFull}

-- Rows and columns.

-- as many columns as starts, less one
pub listed_cols : (l : CompressedLists) → cols (listed l) ≡ length l.starts - 1
listed_cols l = upto_mapped (rows_given l.others l.starts l.ids) (length l.starts - 1)

turned_row_count : (by_rows : Bool) (a : Matrix) (lists : ℕ) → cols a ≡ lists → (transpose_if by_rows a).rows ≡ pick by_rows lists a.rows
turned_row_count true a lists is = is
turned_row_count false a lists is = refl

turned_column_count : (by_rows : Bool) (a : Matrix) (lists : ℕ) → cols a ≡ lists → cols (transpose_if by_rows a) ≡ pick by_rows a.rows lists
turned_column_count true a lists is = transpose_cols a
turned_column_count false a lists is = is

-- the rows of the matrix that is given
pub given_rows : (l : CompressedLists) → (matrix_given l).rows ≡ row_count l
given_rows l = turned_row_count l.by_rows (listed l) (length l.starts - 1) (listed_cols l)

-- its columns
pub given_cols : (l : CompressedLists) → cols (matrix_given l) ≡ column_count l
given_cols l = turned_column_count l.by_rows (listed l) (length l.starts - 1) (listed_cols l)

-- by columns they are those of the matrix
pub given_by_columns : (l : CompressedLists) → l.by_rows ≡ false → matrix_given l ≡ listed l
given_by_columns l by_columns = ap (λ (by_rows : Bool). transpose_if by_rows (listed l)) by_columns

pick_small : (by_rows : Bool) (x y : ℕ) → x < 2 ^ 32 → y < 2 ^ 32 → pick by_rows x y < 2 ^ 32
pick_small true x y few_x few_y = few_x
pick_small false x y few_x few_y = few_y

-- both counts fit 32 bits
pub count_small : (l : CompressedLists) → AreCompressed l → (row_count l < 2 ^ 32) × (column_count l < 2 ^ 32)
count_small l right =
    let starts = right.few_starts in
    let lists : length l.starts - 1 < 2 ^ 32 = omega (arith, starts) in
    (pick_small l.by_rows (length l.starts - 1) l.others lists right.few_rows, pick_small l.by_rows l.others (length l.starts - 1) right.few_rows lists)

-- Entries.

turned_entries : (by_rows : Bool) (a : Matrix) (r c : ℕ) → IsEntry (transpose_if by_rows a) r c ↔ IsEntry a (pick by_rows c r) (pick by_rows r c)
turned_entries true a r c = ((transpose_is a).back c r, (transpose_is a).over c r)
turned_entries false a r c = (λ e. e, λ e. e)

-- its entries are those of the lists, by rows with row and column exchanged
pub given_entries : (l : CompressedLists) (r c : ℕ) → IsEntry (matrix_given l) r c ↔ IsEntry (listed l) (pick l.by_rows c r) (pick l.by_rows r c)
given_entries l r c = turned_entries l.by_rows (listed l) r c

-- The diagonal.

diagonal_turned : (a b : Matrix) → IsTransposeOf a b → IsDiagonalFull a → IsDiagonalFull b
diagonal_turned a b is full i row col =
    let rows = is.rows_are in
    let columns = is.cols_are in
    is.over i i (full i (omega (arith, col, columns)) (omega (arith, row, rows)))

turned_diagonal : (by_rows : Bool) (a : Matrix) → IsDiagonalFull (transpose_if by_rows a) ↔ IsDiagonalFull a
turned_diagonal true a = (diagonal_turned (transpose a) a (transpose_back a (transpose a) (transpose_is a)), diagonal_turned a (transpose a) (transpose_is a))
turned_diagonal false a = (λ full. full, λ full. full)

-- its diagonal is full where that of the lists is
pub given_diagonal : (l : CompressedLists) → IsDiagonalFull (matrix_given l) ↔ IsDiagonalFull (listed l)
given_diagonal l = turned_diagonal l.by_rows (listed l)
