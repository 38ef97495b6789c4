-- The columns where searches begin.
use Rattle.std.specs.Prelude.{◌≡◌, ◌⊎◌, ℕ, ◌<◌, Bool, List, length}
use Rattle.bip_defs.specs.Lists.{Among, IsMarked}
use Rattle.bip_defs.specs.Marks.{AreClosed, IsExplored}
use Rattle.bip_defs.specs.Matching.{cols_of}
use Rattle.bip_defs.specs.Matrix.{Matrix, Place, cols}
use Rattle.bip_graph.specs.Matching.{Pairing}
use Rattle.path_search.specs.Roots.{IsRoot}
use Rattle.path_search.specs.Search.{AreLedTo}

-- columns of the matrix, among them each unmatched one that has an entry
pub record HoldRoots (a : Matrix) (m : List Place) (roots : List ℕ) : Type 0 where
  pub in_range : (c : ℕ) → Among c roots → c < cols a
  pub complete : (c : ℕ) → IsRoot a m c → Among c roots

-- a search from the root failed, or was not needed
pub record FindsNone (a : Matrix) (m : List Place) (old new : List Bool) (root : ℕ) : Type 0 where
  pub marked : (r : ℕ) → IsMarked old r → IsMarked new r
  pub closed : AreClosed a m old → AreClosed a m new
  pub led : AreLedTo a m old → AreLedTo a m new
  pub of_root : ¬ Among root (cols_of m) → IsExplored a new root

-- the matching stayed, since no path begins at the root, or it grew
abbrev pub Extends : Matrix → Pairing → Pairing → List Bool → List Bool → ℕ → Type 0
Extends a m n old new root = ((n ≡ m) × FindsNone a m.pairs old new root)
    ⊎ (length m.pairs < length n.pairs)
