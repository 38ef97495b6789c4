-- A board of shared words. Each row has a word, which a column claims, and each root has one, which
-- a leaf wins.
use Rattle.std.specs.Prelude.{ℕ, List, Option}
use Rattle.atomic_table.specs.Seated.{TableId}

-- the table of shared words in which a board stands, and what the words of the rows and of the
-- roots held when it was opened
pub record Board : Type 0 where
  pub id : TableId
  pub rows : List (Option ℕ)
  pub roots : List (Option ℕ)

-- what the words of a board hold
pub record Words : Type 0 where
  pub rows : List (Option ℕ)
  pub roots : List (Option ℕ)

-- what they hold when the board is opened
abbrev pub opened_words : Board → Words
opened_words b = record { rows = b.rows; roots = b.roots }
