-- What exchanging a path that was found leaves.
use Rattle.std.proofs.Common.{◌≡◌, ◌⊎◌, ℕ, suc, Bool, List, length, inl, inr, ⊎_elim}
use Rattle.bip_defs.specs.Lists.{Among}
use Rattle.bip_defs.specs.Paths.{Exchanges}
use Rattle.bip_defs.specs.Matching.{rows_of}
use Rattle.bip_defs.specs.Matrix.{Matrix, Place}
use Rattle.bip_defs.proofs.Sets.{col_among, col_pair, row_among}
use Rattle.path_search.specs.Search.{Augments, Finds}

pub augmented : (a : Matrix) (m new path : List Place) (marks : List Bool) (root : ℕ) → Finds a m marks root path → Exchanges path m new → length new ≡ suc (length m) → Augments root marks m new
augmented a m new path marks root found x size = record {
  size = size;
  root_matched = let (r, on) = col_pair root path found.from_root in col_among r root new ((x (r, root)).1 (inl on));
  kept = λ r d marked had. (x (r, d)).1 (inr (had, λ on. found.fresh r on (row_among r d m had) marked));
}

-- a pair that is new has a row of the path
pub moved_visited : (m new path : List Place) (visited : List ℕ) → ((r : ℕ) → Among r (rows_of path) → Among r visited) → Exchanges path m new → (r d : ℕ) → Among (r, d) new → Among (r, d) m ⊎ Among r visited
moved_visited m new path visited on x r d h = ⊎_elim (λ g. inr (on r (row_among r d path g))) (λ g. inl g.0) ((x (r, d)).0 h)
