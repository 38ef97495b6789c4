-- The path of a root, and matchings in which the paths of some roots are exchanged.
use Rattle.std.specs.Prelude.{◌≡◌, ℕ, ◌<◌, List, Option, Some, length}
use Rattle.bip_defs.specs.Lists.{Among, AreDistinct}
use Rattle.bip_defs.specs.Matching.{cols_of, rows_of}
use Rattle.bip_defs.specs.Matrix.{Place}
use Rattle.bip_defs.specs.Paths.{Alternates, BeginsUnmatched}
use Rattle.bip_graph.specs.Matching.{IsMatchingOf, Pairing}
use Rattle.forest_core.specs.Current.{IsCurrent, OnPath}
use Rattle.forest_core.specs.Sound.{IsSound}
use Rattle.bip_defs.specs.Forest.{State}
use Rattle.forest_core.specs.Tables.{IsTableOf, beside}

-- the whole path of a root, from the root
pub record IsPath (s : State) (x : ℕ) (path : List Place) : Type 0 where
  pub begins : BeginsUnmatched s.base path
  pub alternates : Alternates s.base path
  pub claimed : (p : Place) → Among p path → Among p s.claims
  pub on_path : (q : ℕ) → Among q (rows_of path) → OnPath s.base s.claims s.leaves x q
  pub complete : (q : ℕ) → OnPath s.base s.claims s.leaves x q → Among q (rows_of path)
  pub rows_differ : AreDistinct (rows_of path)

-- the pairs of a root's path, in whatever order: of each row on it the claim
pub record ArePathPairs (s : State) (x : ℕ) (pairs : List Place) : Type 0 where
  pub claimed : (p : Place) → Among p pairs → Among p s.claims
  pub on_path : (q : ℕ) → Among q (rows_of pairs) → OnPath s.base s.claims s.leaves x q
  pub complete : (q : ℕ) → OnPath s.base s.claims s.leaves x q → Among q (rows_of pairs)

-- the same forest with these roots flipped
abbrev pub with_flipped : State → List ℕ → State
with_flipped s xs = record s { flipped = xs }

-- the base matching with the paths of these roots exchanged
pub record IsExchanged (s : State) (xs : List ℕ) (m : Pairing) : Type 0 where
  pub current : IsCurrent (with_flipped s xs) m.pairs
  pub matching : IsMatchingOf s.matrix m

-- the leaf is that of a root whose path is not exchanged yet
pub record CanTrace (s : State) (xs : List ℕ) (x : ℕ) (m : Pairing)
    (holders : List (Option ℕ)) (leaf : ℕ) : Type 0 where
  pub sound : IsSound s
  pub long : length holders ≡ s.matrix.rows
  pub held : IsTableOf s.claims holders
  pub exchanged : IsExchanged s xs m
  pub not_yet : ¬ Among x xs
  pub leaf_is : Among (x, leaf) s.leaves

-- the column claimed the row
abbrev pub HasHolder : List (Option ℕ) → ℕ → ℕ → Type 0
HasHolder holders r c = beside holders r ≡ Some c

-- the column is in range, as is each that claimed a row, and no column has two mates
pub record IsColOfTrees (m : Pairing) (holders : List (Option ℕ)) (c : ℕ) : Type 0 where
  pub in_range : c < m.cols
  pub holders_in_range : (r d : ℕ) → HasHolder holders r d → d < m.cols
  pub cols_differ : AreDistinct (cols_of m.pairs)
