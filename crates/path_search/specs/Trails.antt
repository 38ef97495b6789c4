-- The path from the root to the column where a search stands.
use Rattle.std.specs.Prelude.{◌≡◌, ◌⊎◌, ℕ, suc, ◌-◌, ◌<◌, ◌≤◌, ◌^◌, Bool, if◌then◌else◌, List, [], ◌∷◌, length, slice_index}
use Rattle.bip_defs.specs.Lists.{Among, AreDistinct, IsMarked}
use Rattle.bip_defs.specs.Marks.{IsExplored}
use Rattle.bip_defs.specs.Matching.{cols_of, rows_of}
use Rattle.bip_defs.specs.Matrix.{IsEntry, Matrix, Place, cols, column}
use Rattle.bip_defs.specs.Walks.{Walk}
use Rattle.path_search.specs.Search.{SearchState}

-- the place at which a list of n is read as its k-th, from its start or from its end
abbrev pub read_place : Bool → ℕ → ℕ → ℕ
read_place reversed n k = if reversed then n - suc k else k

-- the first k rows of the list, so read, are marked
abbrev pub HasPassed : Bool → List Bool → List ℕ → ℕ → Type 0
HasPassed reversed marks rows k = (j : ℕ) → j < k → j < length rows
    → IsMarked marks (slice_index rows (read_place reversed (length rows) j))

-- the path leads from a column to another: each pair is an entry, its row's mate is the next
-- column, and the rows of its column up to its place are marked
abbrev pub Trail : Matrix → List Place → Bool → List Bool → ℕ → List Place → List ℕ → ℕ → Type 0
Trail a m reversed marks from [] [] to = from ≡ to
Trail a m reversed marks from [] (k ∷ places) to = ⊥
Trail a m reversed marks from (p ∷ path) [] to = ⊥
Trail a m reversed marks from (p ∷ path) (k ∷ places) to = (p.1 ≡ from) × IsEntry a p.0 p.1
    × HasPassed reversed marks (column a p.1) k × (d : ℕ) × Among (p.0, d) m
    × Trail a m reversed marks d path places to

-- a search that stands at the k-th row of column c
pub record IsSearchAt (a : Matrix) (m : List Place) (reversed : Bool) (s : SearchState)
    (c k : ℕ) : Type 0 where
  pub cols_are : s.cols ≡ cols a
  pub rows_are : length s.marks ≡ a.rows
  pub few_rows : a.rows < 2 ^ 32
  pub in_range : c < cols a
  pub root_unmatched : ¬ Among s.root (cols_of m)
  pub trail : Trail a m reversed s.marks s.root s.path s.places c
  pub passed : HasPassed reversed s.marks (column a c) k
  pub rows_differ : AreDistinct (rows_of s.path)
  pub path_visited : (r : ℕ) → Among r (rows_of s.path) → Among r s.visited
  pub visited_differ : AreDistinct s.visited
  pub visited_marked : (r : ℕ) → Among r s.visited → IsMarked s.marks r
  -- a row that was visited is on the path, or its mate's rows are all marked
  pub finished : (r : ℕ) → Among r s.visited → Among r (rows_of s.path)
      ⊎ ((d : ℕ) × Among (r, d) m × IsExplored a s.marks d)
  -- and has an entry in a column to which a walk leads from the root
  pub walked : (r : ℕ) → Among r s.visited → (c : ℕ) × Walk a m s.root c × IsEntry a r c
  pub path_shorter : length s.path ≤ length s.visited
