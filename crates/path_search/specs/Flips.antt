-- What exchanging a path asks, and what it leaves.
use Rattle.std.specs.Prelude.{◌≡◌, ℕ, suc, ◌<◌, List, length}
use Rattle.bip_defs.specs.Lists.{Among}
use Rattle.bip_defs.specs.Matching.{Covers}
use Rattle.bip_defs.specs.Matrix.{AreEntries, Matrix, Place}
use Rattle.bip_defs.specs.Paths.{Exchanges, IsAugmenting}
use Rattle.bip_graph.specs.Matching.{IsMatchingOf, Pairing}

-- an augmenting path within the matching's sizes
pub record CanFlip (m : Pairing) (path : List Place) : Type 0 where
  pub in_range : (r c : ℕ) → Among (r, c) path → (r < m.rows) × (c < m.cols)
  pub augmenting : IsAugmenting m.pairs path

-- the path is exchanged
pub record Flips (path : List Place) (m n : Pairing) : Type 0 where
  pub pairs : Exchanges path m.pairs n.pairs
  pub size : length n.pairs ≡ suc (length m.pairs)
  -- a matching of a matrix stays one where the path is of the matrix's entries
  pub matching : (a : Matrix) → IsMatchingOf a m → AreEntries a path → IsMatchingOf a n
  pub covered : Covers m.pairs n.pairs
