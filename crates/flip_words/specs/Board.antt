-- A board of shared words on which paths are exchanged. Each vertex has a word with its mate and
-- the root of its tree, and each tree has a word with the seat that took it. Vertices are numbered:
-- the rows first, then the columns, so that column c is the vertex rows + c. A tree has the number
-- of its root, a column.
use Rattle.std.specs.Prelude.{◌≡◌, ◌↔◌, ℕ, ◌+◌, ◌<◌, List, Option, Some, length}
use Rattle.atomic_table.specs.Seated.{TableId}
use Rattle.bip_defs.specs.Lists.{Among}
use Rattle.bip_defs.specs.WordValues.{held}
use Rattle.bip_graph.specs.Matching.{Pairing}

-- the table of shared words in which a board stands, the numbers of rows and columns, and for each
-- vertex the mate with which it was opened and the root of its tree
pub record Board : Type 0 where
  pub id : TableId
  pub rows : ℕ
  pub cols : ℕ
  pub mates : List (Option ℕ)
  pub trees : List (Option ℕ)

-- the vertex that is the column
abbrev pub col_vertex : Board → ℕ → ℕ
col_vertex b c = b.rows + c

-- for so many vertices the root of each one's tree, which is one of so many columns
pub record AreTrees (vertices cols : ℕ) (trees : List (Option ℕ)) : Type 0 where
  pub as_many : length trees ≡ vertices
  pub roots : (v root : ℕ) → held trees v ≡ Some root → root < cols

-- the board was opened with the mates of this matching and with these trees
pub record IsOpenedFrom (m : Pairing) (roots : List (Option ℕ)) (b : Board) : Type 0 where
  pub rows : b.rows ≡ m.rows
  pub cols : b.cols ≡ m.cols
  pub trees : b.trees ≡ roots
  pub as_many : length b.mates ≡ m.rows + m.cols
  pub row : (r c : ℕ) → r < m.rows → (held b.mates r ≡ Some c) ↔ Among (r, c) m.pairs
  pub col : (r c : ℕ) → c < m.cols → (held b.mates (m.rows + c) ≡ Some r) ↔ Among (r, c) m.pairs
