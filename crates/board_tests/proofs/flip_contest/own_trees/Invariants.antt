use Rattle.std.proofs.Common.{◌≡◌, ◌<◌, ℕ, Some, length}
use Rattle.bip_defs.specs.WordValues.{held}
use Rattle.board_tests.proofs.flip_contest.own_trees.Given as goal

pub record invariant-loop-tree (l : goal.Live-loop-tree) : Type 0 where
  pub long : length l.trees.items ≡ l.tree
  pub own : (t : ℕ) → t < l.tree → held l.trees.items t ≡ Some t
