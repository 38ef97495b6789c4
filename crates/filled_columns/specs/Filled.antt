-- A matrix filled with pairs, and the lists of its columns.
use Rattle.std.specs.Prelude.{◌≡◌, ℕ, zero, suc, ◌+◌, ◌^◌, ◌<◌, List, [], ◌∷◌, length, map, nat_eq, if◌then◌else◌}
use Rattle.bip_defs.specs.EditedMatrix.{Set, edited}
use Rattle.bip_defs.specs.Matching.{cols_of, rows_of}
use Rattle.bip_defs.specs.Matrix.{Matrix, Place, cols, upto}
use Rattle.bip_defs.specs.Once.{ListsOnce}
use Rattle.bip_defs.specs.Parts.{Parts}
use Rattle.bip_graph.specs.Matching.{Pairing}

-- the matrix with entries at these places too
abbrev pub filled : Matrix → List Place → Matrix
filled a m = edited a (map Set m)

-- a square matrix, and pairs that have each of its rows and each of its columns once
pub record IsFullPairing (a : Matrix) (m : Pairing) : Type 0 where
  pub rows_are : m.rows ≡ a.rows
  pub cols_are : m.cols ≡ cols a
  pub square : a.rows ≡ cols a
  pub rows : ListsOnce (λ r. r < a.rows) (rows_of m.pairs)
  pub columns : ListsOnce (λ c. c < cols a) (cols_of m.pairs)

-- the rows that are paired with a column
abbrev pub rows_with : List Place → ℕ → List ℕ
rows_with [] c = []
rows_with (p ∷ m) c = if nat_eq p.1 c then p.0 ∷ rows_with m c else rows_with m c

-- the number before a list, once or not at all
abbrev pub with_first : ℕ → ℕ → List ℕ → List ℕ
with_first zero x xs = xs
with_first (suc more) x xs = x ∷ xs

-- each column's list leaves room for one row more
abbrev pub LeavesRoom : Matrix → (ℕ → List ℕ) → Type 0
LeavesRoom a line = (c : ℕ) → c < cols a → length (line c) + 1 < 2 ^ 32

-- a pairing over the matrix's rows and columns, whose lists leave room for its pairs
pub record CanFill (a : Matrix) (line : ℕ → List ℕ) (m : Pairing) : Type 0 where
  pub rows : m.rows ≡ a.rows
  pub columns : m.cols ≡ cols a
  pub room : LeavesRoom a line

-- all rows and columns in the square part
abbrev pub all_square : ℕ → Parts
all_square n = record {
  horizontal_rows = [];
  horizontal_cols = [];
  square_rows = upto n;
  square_cols = upto n;
  vertical_rows = [];
  vertical_cols = [];
}
