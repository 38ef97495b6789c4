-- Two trees of alternating paths: one from a column that has a row, and one to the column that is to get it.
use Rattle.std.specs.Prelude.{◌≡◌, ◌⊎◌, ℕ, ◌<◌, ◌++◌, ◌∷◌, [], List, length}
use Rattle.bip_defs.specs.Lists.{Among, AreDistinct}
use Rattle.bip_defs.specs.Matching.{cols_of}
use Rattle.bip_defs.specs.Matrix.{IsEntry, Matrix, Place}
use Rattle.bip_defs.specs.Queues.{Queue, at, heads}
use Rattle.least_match.specs.Classes.{IsOther, IsInTail}
use Rattle.least_match.specs.declared.tree.SearchTrees.{SearchTrees}

-- the first column has an entry in the row of the second one's pair
abbrev pub LeadsTo : Matrix → List Place → ℕ → ℕ → Type 0
LeadsTo a m c d = (r : ℕ) → Among (r, d) m → IsEntry a r c

-- distinct matched columns from j on of the class of j, of which the first is the root and each other one stands behind its parent
pub record IsTree (a : Matrix) (m : List Place) (classes : List ℕ) (j first : ℕ)
    (q : Queue) : Type 0 where
  pub some : 0 < length q
  pub root : (at q 0).0 ≡ first
  pub tail : (c : ℕ) → Among c (heads q) → IsInTail a classes j c
  pub matched : (c : ℕ) → Among c (heads q) → Among c (cols_of m)
  pub distinct : AreDistinct (heads q)
  pub behind : (i : ℕ) → 0 < i → i < length q → (at q i).1 < i

-- each column but the root is led to by its parent
abbrev pub IsLedTo : Matrix → List Place → Queue → Type 0
IsLedTo a m q = (i : ℕ) → 0 < i → i < length q → LeadsTo a m (at q (at q i).1).0 (at q i).0

-- each column but the root leads to its parent
abbrev pub LeadsBack : Matrix → List Place → Queue → Type 0
LeadsBack a m q = (i : ℕ) → 0 < i → i < length q → LeadsTo a m (at q i).0 (at q (at q i).1).0

-- each row of the column is matched, to a column of the tree or to one that is before j or of another class
abbrev pub IsScanned : Matrix → List Place → List ℕ → ℕ → Queue → ℕ → Type 0
IsScanned a m classes j q c = (r : ℕ) → IsEntry a r c
    → (d : ℕ) × Among (r, d) m × (IsOther classes j d ⊎ Among d (heads q))

-- each column with an entry in the row of the column's pair is in the tree, before j or of another class
abbrev pub IsScannedBack : Matrix → List Place → List ℕ → ℕ → Queue → ℕ → Type 0
IsScannedBack a m classes j q d = (r c : ℕ) → Among (r, d) m → IsEntry a r c
    → IsOther classes j c ⊎ Among c (heads q)

-- the trees of a search: from the column d, and to the column j, without a column in common
pub record AreSearchTrees (a : Matrix) (m : List Place) (classes : List ℕ) (j d : ℕ)
    (forward backward : Queue) : Type 0 where
  pub forward_tree : IsTree a m classes j d forward
  pub forward_led : IsLedTo a m forward
  pub backward_tree : IsTree a m classes j j backward
  pub backward_leads : LeadsBack a m backward
  pub apart : (c : ℕ) → Among c (heads forward) → ¬ Among c (heads backward)

-- a column of the tree stays as it is; another one is added, behind its parent
abbrev pub Enters : ℕ → ℕ → Queue → Queue → Type 0
Enters c parent old new = (Among c (heads old) × (new ≡ old))
    ⊎ ((¬ Among c (heads old)) × (new ≡ old ++ (c, parent) ∷ []))

-- a column before j or of another class is left; another one is added, unless it is there, where
-- the other tree does not have it
abbrev pub Looks : Matrix → List Place → List ℕ → ℕ → ℕ → ℕ → Queue → Queue → Queue → Type 0
Looks a m classes j c parent old new other = (IsOther classes j c × (new ≡ old))
    ⊎ (IsInTail a classes j c × Among c (cols_of m) × (¬ Among c (heads other))
    × Enters c parent old new)

-- trees for a matrix of so many columns
abbrev pub HaveCols : ℕ → SearchTrees → Type 0
HaveCols n t = (t.forward.cols ≡ n) × (t.backward.cols ≡ n)
