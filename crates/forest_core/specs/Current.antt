-- The base matching, paths of roots, and the current matching: the base matching with the paths of
-- the flipped roots exchanged.
use Rattle.std.specs.Prelude.{◌⊎◌, ◌↔◌, ℕ, List}
use Rattle.bip_defs.specs.Lists.{Among, AreDistinct}
use Rattle.bip_defs.specs.Matrix.{Place, cols}
use Rattle.bip_graph.specs.Matching.{Pairing}
use Rattle.bip_defs.specs.Forest.{State}

-- the base matching over the rows and columns of the matrix
abbrev pub base_of : State → Pairing
base_of s = record { rows = s.matrix.rows; cols = cols s.matrix; pairs = s.base }

-- a row on the path of a root: its leaf, or the base row of the column that claimed a row on the
-- path
pub data OnPath (base claims leaves : List Place) (x : ℕ) : ℕ → Type 0 where
  leaf : {r : ℕ} → Among (x, r) leaves → OnPath base claims leaves x r
  up : {q : ℕ} (r c : ℕ) → OnPath base claims leaves x r → Among (r, c) claims
      → Among (q, c) base → OnPath base claims leaves x q

-- a row on the path of one of these roots
abbrev pub IsOnPathOf : State → List ℕ → ℕ → Type 0
IsOnPathOf s xs r = (x : ℕ) × Among x xs × OnPath s.base s.claims s.leaves x r

-- a pair of the base matching with the paths of these roots exchanged: rows on the paths go to the
-- columns that claimed them, and the other rows keep their base mates
abbrev pub IsPairAfter : State → List ℕ → Place → Type 0
IsPairAfter s xs p = (Among p s.claims × IsOnPathOf s xs p.0)
    ⊎ (Among p s.base × (¬ IsOnPathOf s xs p.0))

-- the pairs after the paths of the flipped roots are exchanged, each listed once
pub record IsCurrent (s : State) (m : List Place) : Type 0 where
  pub pairs : (p : Place) → Among p m ↔ IsPairAfter s s.flipped p
  pub once : AreDistinct m
