-- What exchanging along the paths of a tree leaves.
use Rattle.std.specs.Prelude.{◌≡◌, ◌↔◌, ◌≢◌, ◌⊎◌, ℕ, suc, ◌<◌, List, length}
use Rattle.bip_defs.specs.Lists.{Among, AreDistinct}
use Rattle.bip_defs.specs.Matching.{IsMatching, cols_of, rows_of}
use Rattle.bip_defs.specs.Matrix.{IsEntry, Matrix, Place, cols}
use Rattle.bip_defs.specs.Queues.{Queue, at, heads}
use Rattle.bip_graph.specs.Matching.{Pairing}
use Rattle.least_match.specs.Extensions.{AgreeBelow}
use Rattle.least_match.specs.Trees.{IsLedTo, LeadsBack, LeadsTo}
use Rattle.least_match.specs.declared.exchange.Meeting.{Meeting}
use Rattle.least_match.specs.declared.exchange.Meeting.TheVariants.{FreeCol, FreeRow, Trees}

-- distinct matched columns, each but the first behind its parent
pub record IsMatchedTree (m : List Place) (q : Queue) : Type 0 where
  pub distinct : AreDistinct (heads q)
  pub matched : (c : ℕ) → Among c (heads q) → Among c (cols_of m)
  pub behind : (i : ℕ) → 0 < i → i < length q → (at q i).1 < i

-- columns outside the tree have the same pairs
abbrev pub AgreeBeside : Queue → List Place → List Place → Type 0
AgreeBeside q m n = (r c : ℕ) → ¬ Among c (heads q) → Among (r, c) m ↔ Among (r, c) n

-- for a matrix of as many rows and columns
abbrev pub HaveSameSizes : Pairing → Pairing → Type 0
HaveSameSizes m n = (n.rows ≡ m.rows) × (n.cols ≡ m.cols)

-- a matching of entries stays one where each column leads to its parent
abbrev pub KeepsEntriesBack : Queue → Pairing → Pairing → Type 0
KeepsEntriesBack q m n = (a : Matrix) → IsMatching a m.pairs → LeadsBack a m.pairs q → IsMatching a n.pairs

-- a matching of entries stays one where each column is led to by its parent, and the column at the place has an entry in the row
abbrev pub KeepsEntriesBy : ℕ → ℕ → Queue → Pairing → Pairing → Type 0
KeepsEntriesBy row place q m n = (a : Matrix) → IsMatching a m.pairs → IsLedTo a m.pairs q
    → IsEntry a row (at q place).0 → IsMatching a n.pairs

-- the column gets an unmatched row in place of its own
abbrev pub Swaps : Place → ℕ → List Place → List Place → Type 0
Swaps p row m n = (q : Place) → Among q n ↔ ((q ≡ p) ⊎ (Among q m × (q.0 ≢ row)))

-- where a path from the first column of one tree leads: over a column of it into the row of a column of the other tree, or into an
-- unmatched row; or a path from an unmatched column behind j leads into the other tree
abbrev pub Meets : Matrix → List Place → ℕ → Queue → Queue → Meeting → Type 0
Meets a m j forward backward (Trees from to) = (from < length forward) × (to < length backward)
    × LeadsTo a m (at forward from).0 (at backward to).0
Meets a m j forward backward (FreeRow from row) = (from < length forward)
    × IsEntry a row (at forward from).0 × (¬ Among row (rows_of m))
Meets a m j forward backward (FreeCol col to) = (to < length backward) × (j < col) × (col < cols a)
    × (¬ Among col (cols_of m)) × LeadsTo a m col (at backward to).0

-- n has a pair less, and neither the row r nor the column j has a mate. At the columns below j it agrees with m
pub record Frees (a : Matrix) (m : List Place) (j r : ℕ) (n : List Place) : Type 0 where
  pub matching : IsMatching a n
  pub size : length m ≡ suc (length n)
  pub col_free : ¬ Among j (cols_of n)
  pub row_free : ¬ Among r (rows_of n)
  pub agrees : AgreeBelow j m n
