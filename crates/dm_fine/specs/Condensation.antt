-- The condensation of the square part: its strong components with their rows and columns.
use Rattle.std.specs.Prelude.{◌≡◌, ℕ, List, length}
use Rattle.bip_defs.specs.Matching.{IsMatching}
use Rattle.bip_defs.specs.Matrix.{Matrix, Place}
use Rattle.square_components.specs.Groups.{AreOfMates}
use Rattle.dm_fine.specs.Layout.{IsLayout, Layout}
use Rattle.square_components.specs.Renumbering.{AreNumberedByLeast}
use Rattle.id_groups.specs.Groups.{AreGroups}

-- The components are numbered by their least columns, and the rows of each are the mates of its columns in a matching.
-- These are the numbers of the rows.
pub record IsCondensation (t : Layout) (of_rows : List ℕ) : Type 0 where
  pub laid_out : IsLayout t
  pub pairs : List Place
  pub numbers : List ℕ
  pub matching : IsMatching t.matrix pairs
  pub numbered : AreNumberedByLeast t.matrix pairs numbers (length t.cols)
  pub mates : AreOfMates pairs numbers t.matrix.rows of_rows
  pub by_row : AreGroups of_rows (length t.cols) t.rows
  pub by_col : AreGroups numbers (length t.cols) t.cols

-- The numbers of the rows and the columns of the square part: components are numbered by their least columns, and a row
-- has the number of its mate in a matching.
pub record IsNumbering (a : Matrix) (of_rows of_cols : List ℕ) (count : ℕ) : Type 0 where
  pub pairs : List Place
  pub matching : IsMatching a pairs
  pub numbered : AreNumberedByLeast a pairs of_cols count
  pub mates : AreOfMates pairs of_cols a.rows of_rows

-- the condensation by these numbers
pub record IsCondensationBy (t : Layout) (of_rows of_cols : List ℕ) : Type 0 where
  pub made : IsCondensation t of_rows
  pub numbers_are : made.numbers ≡ of_cols
