-- Augmenting paths, and what exchanging one leaves.
use Rattle.std.specs.Prelude.{◌≢◌, ◌≡◌, ◌⊎◌, ◌↔◌, List, [], ◌∷◌}
use Rattle.bip_defs.specs.Lists.{Among, AreDistinct}
use Rattle.bip_defs.specs.Matching.{cols_of, rows_of}
use Rattle.bip_defs.specs.Matrix.{Place}

-- each column but the first is the mate of the row before it, and the last row has no mate
abbrev pub Alternates : List Place → List Place → Type 0
Alternates m [] = ⊥
Alternates m (p ∷ []) = ¬ Among p.0 (rows_of m)
Alternates m (p ∷ q ∷ path) = Among (p.0, q.1) m × Alternates m (q ∷ path)

abbrev pub BeginsUnmatched : List Place → List Place → Type 0
BeginsUnmatched m [] = ⊥
BeginsUnmatched m (p ∷ path) = ¬ Among p.1 (cols_of m)

-- a path from an unmatched column to an unmatched row, with distinct rows
pub record IsAugmenting (m path : List Place) : Type 0 where
  pub begins : BeginsUnmatched m path
  pub alternates : Alternates m path
  pub rows_differ : AreDistinct (rows_of path)

-- new has the pairs of the path, and the old pairs of the rows that are not on it
abbrev pub Exchanges : List Place → List Place → List Place → Type 0
Exchanges path old new = (p : Place) → Among p new
    ↔ (Among p path ⊎ (Among p old × (¬ Among p.0 (rows_of path))))

-- new is old with the row given to the column
abbrev pub Reassigns : Place → List Place → List Place → Type 0
Reassigns p old new = (q : Place) → Among q new ↔ ((q ≡ p) ⊎ (Among q old × (q.0 ≢ p.0)))

-- new has the pairs of old but that of p's row
abbrev pub IsParted : Place → List Place → List Place → Type 0
IsParted p old new = (q : Place) → Among q new ↔ (Among q old × (q.0 ≢ p.0))
