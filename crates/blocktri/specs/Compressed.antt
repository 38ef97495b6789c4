-- Matrices that a caller has as compressed columns or as compressed rows.
use Rattle.std.specs.Prelude.{◌≡◌, ◌≢◌, ◌⊎◌, ℕ, ◌-◌, Bool, true, false, List, length}
use Rattle.bip_defs.specs.Matrix.{Matrix, transpose}
use Rattle.sp_pattern.specs.Columns.{AreColumns, matrix_of}

-- for each column where its row numbers begin in `ids`, and how many rows there are; or, by rows,
-- for each row where its column numbers begin, and how many columns there are
pub record CompressedLists : Type 0 where
  pub others : ℕ
  pub starts : List ℕ
  pub ids : List ℕ
  pub by_rows : Bool

-- the lists are right
abbrev pub AreCompressed : CompressedLists → Type 0
AreCompressed l = AreColumns l.others l.starts l.ids

-- the matrix whose compressed columns the lists are
abbrev pub listed : CompressedLists → Matrix
listed l = matrix_of l.others l.starts l.ids

abbrev pub transpose_if : Bool → Matrix → Matrix
transpose_if true a = transpose a
transpose_if false a = a

-- the matrix that is given
abbrev pub matrix_given : CompressedLists → Matrix
matrix_given l = transpose_if l.by_rows (listed l)

abbrev pub pick : Bool → ℕ → ℕ → ℕ
pick true x y = x
pick false x y = y

-- how many rows and columns the lists give
abbrev pub row_count : CompressedLists → ℕ
row_count l = pick l.by_rows (length l.starts - 1) l.others

abbrev pub column_count : CompressedLists → ℕ
column_count l = pick l.by_rows l.others (length l.starts - 1)

-- the lists are right, and P holds of the matrix that is given
pub record HasMatrix (l : CompressedLists) (P : Matrix → Type 0) : Type 0 where
  pub compressed : AreCompressed l
  pub holds : P (matrix_given l)

-- a list to be written has room for so many numbers, or none where it is not wanted
abbrev pub IsRoom : {X : Type 0} → ℕ → List X → Type 0
IsRoom count xs = (length xs ≡ 0) ⊎ (length xs ≡ count)

-- P, where the list is wanted
abbrev pub IfWanted : List ℕ → Type 0 → Type 0
IfWanted xs P = length xs ≢ 0 → P
