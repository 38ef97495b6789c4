-- What is found of a matrix by matching it.
use Rattle.std.specs.Prelude.{◌≡◌, ℕ, false, IfSome}
use Rattle.bip_defs.specs.Matrix.{Matrix, cols}
use Rattle.bip_graph.specs.Matching.{IsMaximumOf}
use Rattle.bip_graph.specs.OuterMarks.{AreOuterMarks}
use Rattle.blocktri.specs.Compressed.{CompressedLists, matrix_given}
use Rattle.blocktri.specs.Diagonal.{IsDiagonalFull, KeepsDiagonal}
use Rattle.blocktri.specs.PerfectMatchings.{IsPerfectMatching}
use Rattle.blocktri.specs.declared.matched.MatchedMatrix.{MatchedMatrix}
use Rattle.blocktri.specs.declared.matched.MatchedMatrix.TheVariants.{Diagonal, Perfect, Searched}
use Rattle.blocktri.specs.declared.matched.SearchedMatrix.{SearchedMatrix}

-- the matrix, a maximum matching of it that keeps a full diagonal, and the marks where there are
-- any
pub record IsSearchOf (a : Matrix) (s : SearchedMatrix) : Type 0 where
  pub pattern_is : s.pattern ≡ a
  pub maximum : IsMaximumOf a s.matching
  pub diagonal : KeepsDiagonal a s.matching.pairs
  pub marks_are : IfSome s.marks (AreOuterMarks a)

-- square compressed columns of size n with a full diagonal
pub record HasFullDiagonal (l : CompressedLists) (n : ℕ) : Type 0 where
  pub by_columns : l.by_rows ≡ false
  pub rows_are : (matrix_given l).rows ≡ n
  pub columns_are : cols (matrix_given l) ≡ n
  pub full : IsDiagonalFull (matrix_given l)

-- a full diagonal or another perfect matching of square compressed columns, that keeps a full
-- diagonal, or what a search found
abbrev pub IsMatchedOf : CompressedLists → MatchedMatrix → Type 0
IsMatchedOf l (Diagonal n) = HasFullDiagonal l n
IsMatchedOf l (Perfect m) = (l.by_rows ≡ false) × IsPerfectMatching (matrix_given l) m
    × KeepsDiagonal (matrix_given l) m.pairs
IsMatchedOf l (Searched s) = IsSearchOf (matrix_given l) s
