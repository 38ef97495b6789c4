-- What contracts see of a search, and what it answers.
use Rattle.std.specs.Prelude.{◌≡◌, ◌⊎◌, ℕ, suc, ◌<◌, Bool, false, List, length, slice_index_or}
use Rattle.bip_defs.specs.Lists.{Among, IsMarked}
use Rattle.bip_defs.specs.Marks.{AreClosed, IsExplored}
use Rattle.bip_defs.specs.Matching.{cols_of, rows_of}
use Rattle.bip_defs.specs.Matrix.{AreEntries, IsEntry, Matrix, Place, cols}
use Rattle.bip_defs.specs.Paths.{IsAugmenting}
use Rattle.bip_defs.specs.Walks.{IsLed, Walk}
use Rattle.bip_graph.specs.Matching.{IsMatchingOf, Pairing}

-- the number of columns, the mark of each row, the column where the last search began, the path
-- that it stands on with a place in each column's list, and the rows that it has marked
pub record SearchState : Type 0 where
  pub cols : ℕ
  pub marks : List Bool
  pub root : ℕ
  pub path : List Place
  pub places : List ℕ
  pub visited : List ℕ

-- what searches ask, and leave for the next: a matching of the matrix, and marks and places of its
-- sizes
pub record CanSearch (a : Matrix) (m : Pairing) (s : SearchState) : Type 0 where
  pub rows : length s.marks ≡ a.rows
  pub cols : s.cols ≡ cols a
  pub matching : IsMatchingOf a m

-- what one search asks: it begins at an unmatched column
pub record CanSearchFrom (root : ℕ) (a : Matrix) (m : Pairing) (s : SearchState) : Type 0 where
  pub search : CanSearch a m s
  pub within : root < cols a
  pub unmatched : ¬ Among root (cols_of m.pairs)

-- the rows of the list were marked, which were not before, and no others
pub record HasMarked (rows : List ℕ) (old new : List Bool) : Type 0 where
  pub size : length new ≡ length old
  pub fresh : (r : ℕ) → Among r rows → ¬ IsMarked old r
  pub marked : (r : ℕ) → Among r rows → IsMarked new r
  pub others : (r : ℕ) → ¬ Among r rows → slice_index_or new r false ≡ slice_index_or old r false

-- what one search leaves: the rows that it has visited are marked, and no others since
pub record HasSearched (old new : SearchState) : Type 0 where
  pub cols : new.cols ≡ old.cols
  pub marks : HasMarked new.visited old.marks new.marks

-- an augmenting path of entries with the root on it, whose matched rows were not marked
pub record Finds (a : Matrix) (m : List Place) (marks : List Bool) (root : ℕ)
    (path : List Place) : Type 0 where
  pub augmenting : IsAugmenting m path
  pub entries : AreEntries a path
  pub from_root : Among root (cols_of path)
  pub fresh : (r : ℕ) → Among r (rows_of path) → Among r (rows_of m) → ¬ IsMarked marks r

-- no unmarked row is left to which a walk leads: the root's entries are in marked rows, and so are
-- those of the mates of the rows that were visited, each of which is in a column that a walk reaches
pub record Exhausts (a : Matrix) (m : List Place) (marks : List Bool) (visited : List ℕ)
    (root : ℕ) : Type 0 where
  pub of_root : IsExplored a marks root
  pub of_mates : (r : ℕ) → Among r visited → (d : ℕ) × Among (r, d) m × IsExplored a marks d
  pub walked : (r : ℕ) → Among r visited → (c : ℕ) × Walk a m root c × IsEntry a r c

-- the rows of the list lost their marks, and no others
pub record Unmarks (rows : List ℕ) (old new : List Bool) : Type 0 where
  pub size : length new ≡ length old
  pub gone : (r : ℕ) → Among r rows → ¬ IsMarked new r
  pub others : (r : ℕ) → ¬ Among r rows → slice_index_or new r false ≡ slice_index_or old r false

-- marked rows keep their mates
abbrev pub KeepsMarked : List Bool → List Place → List Place → Type 0
KeepsMarked marks old new = (r d : ℕ) → IsMarked marks r → Among (r, d) old → Among (r, d) new

-- each marked row has an entry in a column to which a walk leads from an unmatched column
abbrev pub AreLedTo : Matrix → List Place → List Bool → Type 0
AreLedTo a m marks = (r : ℕ) → IsMarked marks r → (c : ℕ) × IsLed a m c × IsEntry a r c

-- no augmenting path begins at the root, or leads through a row that was marked on the way, and
-- walks from unmatched columns lead to all of these rows
pub record Fails (a : Matrix) (m : List Place) (old new : List Bool) (root : ℕ) : Type 0 where
  pub marked : (r : ℕ) → IsMarked old r → IsMarked new r
  pub closed : AreClosed a m old → AreClosed a m new
  pub led : AreLedTo a m old → AreLedTo a m new
  pub of_root : IsExplored a new root

-- a longer matching with the root, which has each vertex of the old one
pub record Augments (root : ℕ) (marks : List Bool) (old new : List Place) : Type 0 where
  pub size : length new ≡ suc (length old)
  pub root_matched : Among root (cols_of new)
  pub kept : KeepsMarked marks old new

-- each row that gets a mate, or another one, is in the list
abbrev pub MovesOnly : List ℕ → Pairing → Pairing → Type 0
MovesOnly rows old new = (r d : ℕ) → Among (r, d) new.pairs → Among (r, d) old.pairs ⊎ Among r rows
