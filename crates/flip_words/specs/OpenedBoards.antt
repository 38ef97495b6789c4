-- The words with which a board is opened.
use Rattle.std.specs.Prelude.{◌≡◌, ◌↔◌, ℕ, ◌+◌, ◌<◌, List, ◌++◌, Option, Some, length, map, replicate, slice_index}
use Rattle.bip_defs.specs.Lists.{Among}
use Rattle.bip_graph.specs.Matching.{Pairing}
use Rattle.flip_words.specs.WordCodes.{mate_of, tree_of}

-- the mate of a vertex in the matching
pub record IsMateIn (m : Pairing) (vertex : ℕ) (mate : Option ℕ) : Type 0 where
  pub of_row : (c : ℕ) → vertex < m.rows → (mate ≡ Some c) ↔ Among (vertex, c) m.pairs
  pub of_col : (r c : ℕ) → vertex ≡ m.rows + c → (mate ≡ Some r) ↔ Among (r, c) m.pairs

-- The spare word and the words of the trees are empty, and then come the words of the first
-- vertices, which have these trees and the mates of the matching
pub record AreLaid (m : Pairing) (trees : List (Option ℕ)) (words : List ℕ) : Type 0 where
  pub vertices : List ℕ
  pub order : words ≡ replicate (1 + m.cols) 0 ++ vertices
  pub their_trees : map tree_of vertices ≡ trees
  pub mates : (v : ℕ) → v < length vertices → IsMateIn m v (mate_of (slice_index vertices v))

-- words with which a board of so many rows and columns may be opened: one for each vertex, after
-- the spare word and the words of the trees, which are empty
pub record AreOpening (rows cols : ℕ) (words : List ℕ) : Type 0 where
  pub as_many : length words ≡ 1 + cols + (rows + cols)
  pub empty : (i : ℕ) → i < 1 + cols → slice_index words i ≡ 0
