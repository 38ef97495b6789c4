-- A flip board that was opened from a forest.
use Rattle.std.specs.Prelude.{◌≡◌, ◌↔◌, ℕ, ◌<◌, Some}
use Rattle.bip_defs.specs.Forest.{IsRootOfRow, RootOf, State}
use Rattle.bip_defs.specs.WordValues.{held}
use Rattle.flip_words.specs.Board.{Board, IsOpenedFrom, col_vertex}
use Rattle.forest_core.specs.Current.{base_of}
use Rattle.forest_core.specs.Trees.{HasTrees}

-- The board was opened with the mates of the forest's base matching and with its trees: the tree of
-- each row and of each column is that of its root in the forest
pub record IsBoardOf (s : State) (b : Board) : Type 0 where
  pub opened : IsOpenedFrom (base_of s) b.trees b
  pub row_trees : (r x : ℕ) → r < b.rows → (held b.trees r ≡ Some x)
      ↔ IsRootOfRow s.base s.claims x r
  pub col_trees : (c x : ℕ) → c < b.cols → (held b.trees (col_vertex b c) ≡ Some x)
      ↔ RootOf s.base s.claims x c

-- such a board, with what holds of the forest's trees
pub record IsSoundBoardOf (s : State) (b : Board) : Type 0 where
  pub board : IsBoardOf s b
  pub trees : HasTrees s
