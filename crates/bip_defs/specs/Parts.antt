-- The coarse parts of Dulmage and Mendelsohn: horizontal, vertical, square.
use Rattle.std.specs.Prelude.{ℕ, ◌≡◌, ◌<◌, ◌+◌, Bool, List, length}
use Rattle.bip_defs.specs.Lists.{Among, Lists}
use Rattle.bip_defs.specs.Marks.{Marks}
use Rattle.bip_defs.specs.Matching.{IsMaximum, cols_of, rows_of}
use Rattle.bip_defs.specs.Matrix.{IsEntry, Matrix, Place, cols}

-- a column that some maximum matching misses
abbrev pub IsHorizontalCol : Matrix → ℕ → Type 0
IsHorizontalCol a c = (c < cols a) × (m : List Place) × IsMaximum a m × (¬ Among c (cols_of m))

-- a row with an entry in such a column
abbrev pub IsHorizontalRow : Matrix → ℕ → Type 0
IsHorizontalRow a r = (c : ℕ) × IsHorizontalCol a c × IsEntry a r c

-- a row that some maximum matching misses
abbrev pub IsVerticalRow : Matrix → ℕ → Type 0
IsVerticalRow a r = (r < a.rows) × (m : List Place) × IsMaximum a m × (¬ Among r (rows_of m))

-- a column with an entry in such a row
abbrev pub IsVerticalCol : Matrix → ℕ → Type 0
IsVerticalCol a c = (r : ℕ) × IsVerticalRow a r × IsEntry a r c

-- the other rows and columns
abbrev pub IsSquareRow : Matrix → ℕ → Type 0
IsSquareRow a r = (r < a.rows) × (¬ IsHorizontalRow a r) × (¬ IsVerticalRow a r)

abbrev pub IsSquareCol : Matrix → ℕ → Type 0
IsSquareCol a c = (c < cols a) × (¬ IsHorizontalCol a c) × (¬ IsVerticalCol a c)

-- of each column, or of each row, whether it is in the part
abbrev pub MarkHorizontalCols : Matrix → List Bool → Type 0
MarkHorizontalCols a marks = Marks (cols a) (IsHorizontalCol a) marks

abbrev pub MarkHorizontalRows : Matrix → List Bool → Type 0
MarkHorizontalRows a marks = Marks a.rows (IsHorizontalRow a) marks

abbrev pub MarkVerticalRows : Matrix → List Bool → Type 0
MarkVerticalRows a marks = Marks a.rows (IsVerticalRow a) marks

abbrev pub MarkVerticalCols : Matrix → List Bool → Type 0
MarkVerticalCols a marks = Marks (cols a) (IsVerticalCol a) marks

-- the six rising lists
pub record Parts : Type 0 where
  pub horizontal_rows : List ℕ
  pub horizontal_cols : List ℕ
  pub square_rows : List ℕ
  pub square_cols : List ℕ
  pub vertical_rows : List ℕ
  pub vertical_cols : List ℕ

pub record ArePartsOf (a : Matrix) (p : Parts) : Type 0 where
  pub horizontal_rows : Lists (IsHorizontalRow a) p.horizontal_rows
  pub horizontal_cols : Lists (IsHorizontalCol a) p.horizontal_cols
  pub square_rows : Lists (IsSquareRow a) p.square_rows
  pub square_cols : Lists (IsSquareCol a) p.square_cols
  pub vertical_rows : Lists (IsVerticalRow a) p.vertical_rows
  pub vertical_cols : Lists (IsVerticalCol a) p.vertical_cols

-- each row and each column is in one part
pub record AreAllCounted (a : Matrix) (p : Parts) : Type 0 where
  pub rows : length p.horizontal_rows + length p.square_rows + length p.vertical_rows ≡ a.rows
  pub cols : length p.horizontal_cols + length p.square_cols + length p.vertical_cols ≡ cols a

-- the horizontal part has more columns than rows, and the vertical part more rows than columns, by as many
-- as the matching leaves unmatched
pub record HasSurplus (a : Matrix) (m : List Place) (p : Parts) : Type 0 where
  pub square : length p.square_rows ≡ length p.square_cols
  pub horizontal : length p.horizontal_cols + length m ≡ cols a + length p.horizontal_rows
  pub vertical : length p.vertical_rows + length m ≡ a.rows + length p.vertical_cols
