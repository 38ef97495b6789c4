-- Searches for the columns, one after another.
use Rattle.std.specs.Prelude.{◌≡◌, ℕ, ◌<◌, ◌≤◌, [], vec_capacity}
use Rattle.bip_defs.specs.Lists.{Among}
use Rattle.bip_defs.specs.Matching.{cols_of}
use Rattle.bip_defs.specs.Matrix.{Matrix, cols}
use Rattle.integer_diagonal.specs.declared.assignment.Assignment.{Assignment}
use Rattle.integer_diagonal.specs.declared.path.PathSearch.{PathSearch}
use Rattle.integer_diagonal.specs.Duals.{IsAssignment}
use Rattle.integer_diagonal.specs.Labels.{IsClear, labels_of, tree_of}
use Rattle.sp_pattern.specs.Weights.{Weighing}

-- a search can begin in the matrix, and there is room for a path
pub record IsReady {W : Type 0} (m : Matrix) (p : PathSearch W) : Type 0 where
  pub clear : IsClear m.rows (tree_of p.search) (labels_of p.search)
  pub listed : p.search.reached.items ≡ []
  pub room : cols m ≤ vec_capacity p.path

-- the columns below n have mates, and the search is ready for the next one
pub record AreMated {W : Type 0} (w : Weighing) (a : Assignment W) (p : PathSearch W)
    (n : ℕ) : Type 0 where
  pub assignment : IsAssignment w a
  pub ready : IsReady w.matrix p
  pub done : (c : ℕ) → c < n → Among c (cols_of a.matching.pairs)
