-- Matrices whose columns grow and shrink.
use Rattle.std.specs.Prelude.{◌≡◌, ℕ, zero, suc, ◌<◌, ◌≤◌, List, [], ◌++◌, length, map, slice_index}
use Rattle.bip_defs.specs.Matrix.{Matrix, Place, column, entry_count}
use Rattle.sp_pattern.specs.Stored.{IsPattern}

-- a matrix, and for how many rows each column has room
pub record RoomyMatrix : Type 0 where
  pub matrix : Matrix
  pub room : List ℕ

-- the column has room for one row more
abbrev pub HasRoom : RoomyMatrix → ℕ → Type 0
HasRoom a c = length (column a.matrix c) < slice_index a.room c

-- a matrix of rising lists, which has so many entries
pub record IsCounted (a : Matrix) (entries : ℕ) : Type 0 where
  pub pattern : IsPattern a
  pub count : entry_count a ≡ entries

-- the numbers before this place of the list are less, and those from there on greater
pub record IsGap (xs : List ℕ) (x at : ℕ) : Type 0 where
  pub within : at ≤ length xs
  pub less : (k : ℕ) → k < at → slice_index xs k < x
  pub greater : (k : ℕ) → at ≤ k → k < length xs → x < slice_index xs k

-- the places of a column's rows
abbrev pub column_places : ℕ → List ℕ → List Place
column_places c rows = map (λ r. (r, c)) rows

-- the places of the first n columns, column by column
abbrev pub first_places : Matrix → ℕ → List Place
first_places a zero = []
first_places a (suc n) = first_places a n ++ column_places n (column a n)
