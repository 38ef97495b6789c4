-- What follows for the trees of a forest that can come about.
use Rattle.std.specs.Prelude.{◌≡◌, ℕ, ◌<◌, ◌≤◌, List, [], length}
use Rattle.bip_defs.specs.Lists.{Among, AreDistinct}
use Rattle.bip_defs.specs.Matching.{IsMaximum, cols_of, rows_of}
use Rattle.bip_defs.specs.Matrix.{Place, cols}
use Rattle.bip_defs.specs.Forest.{InForest, IsRootOfRow, IsSettled, RootOf, State}
use Rattle.forest_core.specs.Current.{OnPath}
use Rattle.forest_core.specs.Events.{IsLegal}
use Rattle.forest_core.specs.Paths.{IsPath}
use Rattle.forest_core.specs.Sound.{IsSound}
use Rattle.sp_ids.specs.declared.events.Event.TheVariants.{Done}

-- Claims are of distinct rows, at most as many as there are rows, each at a place of the matrix and
-- by a column that is in the forest. A column in the forest has a root, and one only: a column of
-- the matrix that is unmatched in the base; no other column has one. A claimed row has a root, and
-- one only, which is in range: that of the column that claimed it, and of its base mate. The base
-- mate of a column in the forest is claimed. A root with a leaf is in range, as its leaf is, and has
-- a path, whose rows are all of its tree. Where the forest is settled and nothing is left to be
-- claimed, the base matching is maximum.
pub record HasTrees (s : State) : Type 0 where
  pub sound : IsSound s
  pub rows_differ : AreDistinct (rows_of s.claims)
  pub few : length s.claims ≤ s.matrix.rows
  pub claim_in_range : (r c : ℕ) → Among (r, c) s.claims
      → (r < s.matrix.rows) × (c < cols s.matrix)
  pub claimer_inside : (r c : ℕ) → Among (r, c) s.claims → InForest s c
  pub root : (c : ℕ) → InForest s c → (x : ℕ) × RootOf s.base s.claims x c
  pub one_root : (x y c : ℕ) → RootOf s.base s.claims x c → RootOf s.base s.claims y c → x ≡ y
  pub root_in_range : (x c : ℕ) → RootOf s.base s.claims x c → c < cols s.matrix
      → x < cols s.matrix
  pub root_unmatched : (x c : ℕ) → RootOf s.base s.claims x c → ¬ Among x (cols_of s.base)
  pub rooted_inside : (x c : ℕ) → RootOf s.base s.claims x c → c < cols s.matrix → InForest s c
  pub row_root : (r : ℕ) → Among r (rows_of s.claims) → (x : ℕ) × IsRootOfRow s.base s.claims x r
  pub one_row_root : (x y r : ℕ) → IsRootOfRow s.base s.claims x r
      → IsRootOfRow s.base s.claims y r → x ≡ y
  pub row_root_in_range : (x r : ℕ) → IsRootOfRow s.base s.claims x r
      → (x < cols s.matrix) × (r < s.matrix.rows)
  pub claimer_root : (x r c : ℕ) → IsRootOfRow s.base s.claims x r → Among (r, c) s.claims
      → RootOf s.base s.claims x c
  pub mate_root : (x r c : ℕ) → RootOf s.base s.claims x c → Among (r, c) s.base
      → IsRootOfRow s.base s.claims x r
  pub mate_claimed : (r c : ℕ) → Among (r, c) s.base → InForest s c → Among r (rows_of s.claims)
  pub leaf_in_range : (x r : ℕ) → Among (x, r) s.leaves → (x < cols s.matrix) × (r < s.matrix.rows)
  pub leaf_path : (x r : ℕ) → Among (x, r) s.leaves → (path : List Place) × IsPath s x path
  pub path_root : (x r : ℕ) → OnPath s.base s.claims s.leaves x r
      → IsRootOfRow s.base s.claims x r
  pub maximum : IsSettled s → IsLegal s Done → s.flipped ≡ [] → IsMaximum s.matrix s.base
