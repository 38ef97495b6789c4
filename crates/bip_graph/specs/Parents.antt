-- Alternating trees that a search has grown from the unmatched columns, seen by what was reached from what. A row is reached
-- from a column, its parent, and with the row the column of its pair.
use Rattle.std.specs.Prelude.{◌≡◌, ◌⊎◌, ℕ, zero, suc, ◌<◌, List, length}
use Rattle.bip_defs.specs.Lists.{Among, AreDistinct}
use Rattle.bip_defs.specs.Matching.{cols_of, rows_of}
use Rattle.bip_defs.specs.Matrix.{Place}
use Rattle.bip_defs.specs.Queues.{Queue, at, heads}
use Rattle.bip_graph.specs.Matching.{Pairing}

-- the column is so many parents away from an unmatched column, the root of its tree
pub data HasDepth (m : List Place) (reached : ℕ → ℕ → Type 0) : ℕ → ℕ → Type 0 where
  root : {c : ℕ} → ¬ Among c (cols_of m) → HasDepth m reached c zero
  child : {c d n : ℕ} (r : ℕ) → Among (r, c) m → reached r d → HasDepth m reached d n
      → HasDepth m reached c (suc n)

-- the column is in a tree
abbrev pub IsRooted : List Place → (ℕ → ℕ → Type 0) → ℕ → Type 0
IsRooted m reached c = (n : ℕ) × HasDepth m reached c n

-- the column itself, its parent, the parent's parent, and so on to the root
pub data IsAncestor (m : List Place) (reached : ℕ → ℕ → Type 0) (c : ℕ) : ℕ → Type 0 where
  itself : IsAncestor m reached c c
  parent : {d e : ℕ} (r : ℕ) → IsAncestor m reached c d → Among (r, d) m → reached r e
      → IsAncestor m reached c e

-- over pairs of distinct rows and distinct columns, each row with one parent at most
pub record AreTrees (m : List Place) (reached : ℕ → ℕ → Type 0) : Type 0 where
  pub rows_differ : AreDistinct (rows_of m)
  pub cols_differ : AreDistinct (cols_of m)
  pub one_parent : (r c d : ℕ) → reached r c → reached r d → c ≡ d

-- the leaf with its column c, or a row and its parent, where the row's pair is of an ancestor of c
abbrev pub IsTraced : List Place → (ℕ → ℕ → Type 0) → ℕ → ℕ → Place → Type 0
IsTraced m reached leaf c p = (p ≡ (leaf, c))
    ⊎ ((d : ℕ) × IsAncestor m reached c d × Among (p.0, d) m × reached p.0 p.1)

-- Trees that are kept as a queue of columns.

-- the row's mate stands in the queue behind the column, with the column's place
abbrev pub IsReachedIn : List Place → Queue → ℕ → ℕ → Type 0
IsReachedIn m q r d = (i : ℕ) × (i < length q) × Among (r, (at q i).0) m × ((at q i).1 < i)
    × ((at q (at q i).1).0 ≡ d)

-- each column once, and each that is matched behind its parent
pub record IsQueue (m : Pairing) (q : Queue) : Type 0 where
  pub in_range : (c : ℕ) → Among c (heads q) → c < m.cols
  pub distinct : AreDistinct (heads q)
  pub earlier : (i : ℕ) → i < length q → Among (at q i).0 (cols_of m.pairs) → (at q i).1 < i
