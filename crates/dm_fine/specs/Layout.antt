-- The strong components of a square part with their rows and columns, and where they lead to.
use Rattle.std.specs.Prelude.{◌≢◌, ℕ, ◌^◌, ◌<◌, List, length}
use Rattle.bip_defs.specs.Lists.{Among}
use Rattle.bip_defs.specs.Matrix.{IsEntry, Matrix, cols}
use Rattle.column_lists.specs.Listed.{AreListed}
use Rattle.dm_fine.specs.Groups.{AreApart}
use Rattle.id_groups.specs.Groups.{group}

-- a matrix with a list of rows for each column, and the rows and the columns of each component
pub record Layout : Type 0 where
  pub matrix : Matrix
  pub line : ℕ → List ℕ
  pub rows : List (List ℕ)
  pub cols : List (List ℕ)

abbrev pub layout : Matrix → (ℕ → List ℕ) → List (List ℕ) → List (List ℕ) → Layout
layout a line rows cols = record { matrix = a; line = line; rows = rows; cols = cols }

-- the lists are those of the matrix's columns, and components share no row and no column
pub record IsLayout (t : Layout) : Type 0 where
  pub listed : AreListed t.matrix t.line
  pub few : length t.cols < 2 ^ 32
  pub by_row : AreApart t.matrix.rows (length t.cols) t.rows
  pub by_col : AreApart (cols t.matrix) (length t.cols) t.cols

-- a column of component j has an entry in a row of another one, p
pub record LeadsTo (t : Layout) (j p : ℕ) : Type 0 where
  pub other : j ≢ p
  pub row : ℕ
  pub col : ℕ
  pub in_col : Among col (group t.cols j)
  pub in_row : Among row (group t.rows p)
  pub entry : IsEntry t.matrix row col
