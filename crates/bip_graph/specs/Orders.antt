-- The matrix with its rows and columns in the orders of a report.
use Rattle.std.specs.Prelude.{ℕ, ◌<◌, ◌≤◌, List, length, slice_index, take}
use Rattle.bip_defs.specs.Blocks.{Block, all_cols, all_rows}
use Rattle.bip_defs.specs.Matrix.{IsEntry, Matrix}

-- how many rows stand before the block at a position
abbrev pub rows_before : List Block → ℕ → ℕ
rows_before blocks i = length (all_rows (take i blocks))

abbrev pub cols_before : List Block → ℕ → ℕ
cols_before blocks i = length (all_cols (take i blocks))

-- from the first row of each block on, in the order of the rows, no row has an entry in a column that stands before the block
abbrev pub IsZeroBelow : Matrix → List Block → List ℕ × List ℕ → Type 0
IsZeroBelow a blocks orders = (i x y : ℕ) → rows_before blocks i ≤ x → x < a.rows
    → y < cols_before blocks i → ¬ IsEntry a (slice_index orders.0 x) (slice_index orders.1 y)
