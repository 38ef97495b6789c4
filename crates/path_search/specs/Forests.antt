-- Breadth-first trees of columns, one from each unmatched column.
use Rattle.std.specs.Prelude.{◌≡◌, ◌⊎◌, ℕ, ◌<◌, ◌^◌, Bool, List, true, false, [], ◌∷◌, ◌++◌, length, map, set, slice_index_or}
use Rattle.bip_defs.specs.Lists.{Among, AreDistinct, IsMarked}
use Rattle.bip_defs.specs.Marks.{IsExplored}
use Rattle.bip_defs.specs.Matching.{Covers, cols_of, rows_of}
use Rattle.bip_defs.specs.Matrix.{AreEntries, IsEntry, Matrix, Place, cols}
use Rattle.bip_defs.specs.Paths.{IsAugmenting}
use Rattle.bip_graph.specs.Matching.{IsMatchingOf, Pairing}
use Rattle.path_search.specs.declared.reached.Reached.{Reached}

-- the number of columns, the mark of each row, the columns that were reached so far, and the path
-- that was found last
pub record Trees : Type 0 where
  pub cols : ℕ
  pub marks : List Bool
  pub queue : List Reached
  pub path : List Place

-- what was reached at a place of the queue
abbrev pub reached_at : List Reached → ℕ → Reached
reached_at q i = slice_index_or q i (record { col = 0; from = 0; root = 0 })

abbrev pub reached_cols : List Reached → List ℕ
reached_cols q = map (λ (x : Reached). x.col) q

-- the column at the place is the root of its tree, or has its mate in the list of an earlier column
-- of the tree
abbrev pub IsFound : Matrix → List Place → List Reached → ℕ → Type 0
IsFound a m q i = ((reached_at q i).col ≡ (reached_at q i).root)
    ⊎ (((reached_at q i).from < i)
    × ((reached_at q (reached_at q i).from).root ≡ (reached_at q i).root) × (r : ℕ)
    × Among (r, (reached_at q i).col) m × IsEntry a r (reached_at q (reached_at q i).from).col)

-- the row's mate stands in the queue behind the column, its parent, in a tree whose root is
-- unmatched
abbrev pub HasParent : List Place → List Reached → ℕ → ℕ → Type 0
HasParent m q r d = (i : ℕ) × (i < length q) × (¬ Among (reached_at q i).root (cols_of m))
    × Among (r, (reached_at q i).col) m × ((reached_at q i).from < i)
    × ((reached_at q (reached_at q i).from).root ≡ (reached_at q i).root)
    × ((reached_at q (reached_at q i).from).col ≡ d)

-- the column at the place is the root of its tree, or stands behind an earlier column of the tree
abbrev pub IsRooted : List Reached → ℕ → Type 0
IsRooted q i = ((reached_at q i).col ≡ (reached_at q i).root)
    ⊎ (((reached_at q i).from < i)
    × ((reached_at q (reached_at q i).from).root ≡ (reached_at q i).root))

-- distinct columns, of which each whose root is unmatched has its tree before it
pub record AreRooted (m : Pairing) (q : List Reached) : Type 0 where
  pub in_range : (x : Reached) → Among x q → x.col < m.cols
  pub distinct : AreDistinct (reached_cols q)
  pub rooted : (i : ℕ) → i < length q → ¬ Among (reached_at q i).root (cols_of m.pairs)
      → IsRooted q i

-- trees of distinct columns, whose mates are marked. A tree whose root has a mate by now is done
-- with
pub record IsForest (a : Matrix) (m : List Place) (t : Trees) : Type 0 where
  pub rows_are : length t.marks ≡ a.rows
  pub cols_are : t.cols ≡ cols a
  pub in_range : (i : ℕ) → i < length t.queue
      → ((reached_at t.queue i).col < cols a) × ((reached_at t.queue i).root < cols a)
  pub cols_differ : AreDistinct (reached_cols t.queue)
  pub mates_marked : (r c : ℕ) → Among (r, c) m → Among c (reached_cols t.queue)
      → IsMarked t.marks r
  pub found : (i : ℕ) → i < length t.queue → ¬ Among (reached_at t.queue i).root (cols_of m)
      → IsFound a m t.queue i

-- what a phase begins with, and leaves for the next: a matching of the matrix, and trees of its sizes
pub record CanGrow (a : Matrix) (m : Pairing) (t : Trees) : Type 0 where
  pub rows : length t.marks ≡ a.rows
  pub cols : t.cols ≡ cols a
  pub matching : IsMatchingOf a m

-- within a phase: a matching of the matrix, and the trees that have grown so far
pub record AreGrowing (a : Matrix) (m : Pairing) (t : Trees) : Type 0 where
  pub few_rows : a.rows < 2 ^ 32
  pub few_cols : cols a < 2 ^ 32
  pub matching : IsMatchingOf a m
  pub forest : IsForest a m.pairs t

-- the row's mate was reached
abbrev pub LeadsOn : List Place → List Reached → ℕ → Type 0
LeadsOn m q r = (d : ℕ) × Among (r, d) m × Among d (reached_cols q)

-- no tree has found a path yet: all unmatched columns are roots, the columns before the place have
-- been looked through, and each marked row leads on
pub record HaveNoPath (a : Matrix) (m : List Place) (t : Trees) (place : ℕ) : Type 0 where
  pub unmatched : (c : ℕ) → c < cols a → ¬ Among c (cols_of m) → Among c (reached_cols t.queue)
  pub roots_unmatched : (i : ℕ) → i < length t.queue
      → ¬ Among (reached_at t.queue i).root (cols_of m)
  pub explored : (i : ℕ) → i < place → IsExplored a t.marks (reached_at t.queue i).col
  pub leads_on : (r : ℕ) → IsMarked t.marks r → LeadsOn m t.queue r

-- more columns were reached from the tree of this root, and more rows marked
pub record Spreads (root : ℕ) (old new : Trees) : Type 0 where
  pub cols_stay : new.cols ≡ old.cols
  pub more : (more : List Reached) × (new.queue ≡ old.queue ++ more)
      × ((x : Reached) → Among x more → x.root ≡ root)
  pub marked : (r : ℕ) → IsMarked old.marks r → IsMarked new.marks r

-- what was reached stays at its place, and what was marked stays marked
pub record Extends (old new : Trees) : Type 0 where
  pub more : (more : List Reached) × (new.queue ≡ old.queue ++ more)
  pub marked : (r : ℕ) → IsMarked old.marks r → IsMarked new.marks r

-- the phase goes on: the trees have grown, and what was matched stays matched
pub record GrowOn (a : Matrix) (m n : Pairing) (old new : Trees) : Type 0 where
  pub growing : AreGrowing a n new
  pub extends : Extends old new
  pub covered : Covers m.pairs n.pairs

-- each row that was marked since leads on
abbrev pub LeadOn : List Place → Trees → Trees → Type 0
LeadOn m old new = (r : ℕ) → IsMarked new.marks r → IsMarked old.marks r ⊎ LeadsOn m new.queue r

-- an unmatched row, marked, in which the column has an entry
pub record IsLeafOf (a : Matrix) (m : List Place) (t : Trees) (c r : ℕ) : Type 0 where
  pub entry : IsEntry a r c
  pub unmatched : ¬ Among r (rows_of m)
  pub marked : IsMarked t.marks r

-- a path ends at the row: it is unmatched and marked, and the column at the place of the queue has an
-- entry in it and stands in a tree whose root is unmatched
pub record EndsAt (a : Matrix) (m : List Place) (t : Trees) (r place : ℕ) : Type 0 where
  pub within : place < length t.queue
  pub leaf : IsLeafOf a m t (reached_at t.queue place).col r
  pub unmatched : ¬ Among (reached_at t.queue place).root (cols_of m)

-- a marked row stays as it is; another is marked, and its mate is reached, or it has none
abbrev pub Visits : List Place → ℕ → ℕ → ℕ → Trees → Trees → Bool → Type 0
Visits m r place root old new true = (¬ IsMarked old.marks r) × (¬ Among r (rows_of m))
    × (new ≡ record old { marks = set old.marks r true })
Visits m r place root old new false = (IsMarked old.marks r × (new ≡ old))
    ⊎ ((¬ IsMarked old.marks r) × (d : ℕ) × Among (r, d) m
    × (new ≡ record old {
      marks = set old.marks r true;
      queue = old.queue ++ record { col = d; from = place; root = root } ∷ [];
    }))

-- an augmenting path of entries from the root, whose rows but its last have their mates in the tree
-- of this root
pub record Traces (a : Matrix) (m : List Place) (q : List Reached) (root leaf : ℕ)
    (path : List Place) : Type 0 where
  pub augmenting : IsAugmenting m path
  pub entries : AreEntries a path
  pub from_root : Among root (cols_of path)
  pub in_tree : (r : ℕ) → Among r (rows_of path) → (r ≡ leaf)
      ⊎ ((i : ℕ) × (i < length q) × ((reached_at q i).root ≡ root)
      × Among (r, (reached_at q i).col) m)

-- the matching stays, and the columns from one place to another have been looked through, or it grows
abbrev pub Progresses : Matrix → Pairing → Pairing → Trees → Trees → ℕ → ℕ → Type 0
Progresses a m n old new place next = ((n ≡ m)
    × (HaveNoPath a m.pairs old place → HaveNoPath a m.pairs new next))
    ⊎ (length m.pairs < length n.pairs)
