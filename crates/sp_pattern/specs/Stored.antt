-- How flat lists store a matrix by columns and by rows.
use Rattle.std.specs.Prelude.{◌≡◌, ℕ, ◌+◌, ◌-◌, ◌^◌, ◌<◌, ◌≤◌, List, length}
use Rattle.bip_defs.specs.Lists.{Lists}
use Rattle.bip_defs.specs.Matrix.{Matrix, IsEntry, cols, column, entry_count}
use Rattle.bip_defs.specs.Pieces.{AreStarts, piece, pieces}

-- the matrix that is stored by columns, with so many rows as starts of rows less one
abbrev pub stored : List ℕ → List ℕ → List ℕ → Matrix
stored col_starts col_rows row_starts = record {
  rows = length row_starts - 1;
  columns = pieces col_starts col_rows;
}

-- both orders have each entry, rising
pub record AreOrders (col_starts col_rows row_starts row_cols : List ℕ) : Type 0 where
  pub few_cols : length col_starts ≤ 2 ^ 32
  pub few_rows : length row_starts ≤ 2 ^ 32
  pub few_entries : length col_rows < 2 ^ 32
  pub same_length : length row_cols ≡ length col_rows
  pub by_col : AreStarts col_starts col_rows
  pub by_row : AreStarts row_starts row_cols
  pub rows : (c : ℕ) → c + 1 < length col_starts
      → Lists (λ r. IsEntry (stored col_starts col_rows row_starts) r c)
      (piece col_starts col_rows c)
  pub cols : (r : ℕ) → r + 1 < length row_starts
      → Lists (λ c. IsEntry (stored col_starts col_rows row_starts) r c)
      (piece row_starts row_cols r)

-- what holds of the matrix of each pattern: its sizes fit 32 bits, and each column's list is the
-- rising one of its entries
pub record IsPattern (a : Matrix) : Type 0 where
  pub few_rows : a.rows < 2 ^ 32
  pub few_cols : cols a < 2 ^ 32
  pub few_entries : entry_count a < 2 ^ 32
  pub columns : (c : ℕ) → Lists (λ r. IsEntry a r c) (column a c)
