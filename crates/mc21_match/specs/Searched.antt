-- How far the run over the columns has come.
use Rattle.std.specs.Prelude.{◌≡◌, ℕ, ◌<◌, length}
use Rattle.bip_defs.specs.Lists.{Among}
use Rattle.bip_defs.specs.Marks.{AreClosed, IsExplored}
use Rattle.bip_defs.specs.Matching.{cols_of}
use Rattle.bip_defs.specs.Matrix.{Matrix, cols}
use Rattle.bip_graph.specs.Matching.{Pairing}
use Rattle.path_search.specs.Search.{SearchState}

-- all columns below n were searched from: no augmenting path leads through a marked row, then or
-- later, or begins at one of those columns that is unmatched
pub record AreTriedBelow (a : Matrix) (m : Pairing) (s : SearchState) (n : ℕ) : Type 0 where
  pub rows : length s.marks ≡ a.rows
  pub cols : s.cols ≡ cols a
  pub closed : AreClosed a m.pairs s.marks
  pub searched : (c : ℕ) → c < n → ¬ Among c (cols_of m.pairs) → IsExplored a s.marks c
