-- What a search keeps of the rows: their distances so far, and from where.
use Rattle.std.specs.Prelude.{◌≡◌, ◌⊎◌, ℕ, ◌+◌, ◌<◌, ◌≤◌, Bool, List, [], length, set, slice_index, slice_index_or}
use Rattle.bip_defs.specs.Lists.{Among, IsMarked}
use Rattle.bip_defs.specs.Matching.{rows_of}
use Rattle.bip_defs.specs.Matrix.{IsEntry, Place}
use Rattle.integer_diagonal.specs.declared.search.Nearest.{Nearest}
use Rattle.integer_diagonal.specs.declared.search.DijkstraSearch.{DijkstraSearch}
use Rattle.integer_diagonal.specs.Duals.{Priced, dual, paid}
use Rattle.integer_diagonal.specs.SearchTree.{IsGrown, IsNearest, Reaches, Tree, depth, stop}
use Rattle.integer_diagonal.specs.Amounts.{infinity}

pub record Labels : Type 0 where
  pub distances : List ℕ
  pub parents : List ℕ
  pub settled : List Bool
  pub waiting : List (ℕ × ℕ)

abbrev pub distance_of : Labels → ℕ → ℕ
distance_of l r = slice_index_or l.distances r infinity

-- a search as contracts see it
abbrev pub tree_of : {W : Type 0} → DijkstraSearch W → Tree
tree_of s = record { queue = s.queue.items; depths = s.depths.items }

abbrev pub labels_of : {W : Type 0} → DijkstraSearch W → Labels
labels_of s = record {
  distances = s.distances.items;
  parents = s.parents.items;
  settled = s.settled.items;
  waiting = s.frontier;
}

-- the rows with a distance are matched and reached at it; the settled ones are those whose mates are among the columns, and
-- the others wait, at no less than the level, which is no less than any depth
pub record IsKept (x : Priced) (m : List Place) (t : Tree) (l : Labels) (level : ℕ) : Type 0 where
  pub distances_are : length l.distances ≡ x.weighing.matrix.rows
  pub parents_are : length l.parents ≡ x.weighing.matrix.rows
  pub settled_are : length l.settled ≡ x.weighing.matrix.rows
  pub reached : (r : ℕ) → distance_of l r < infinity
      → Reaches x t r (slice_index l.parents r) (distance_of l r)
  pub matched : (r : ℕ) → distance_of l r < infinity → Among r (rows_of m)
  pub settled : (r : ℕ) → IsMarked l.settled r
      → (j : ℕ) × (0 < j) × (j < length t.queue) × Among (r, stop t j) m
      × (depth t j ≡ distance_of l r)
  pub entered : (i r : ℕ) → 0 < i → i < length t.queue → Among (r, stop t i) m
      → IsMarked l.settled r
  pub waiting : (r : ℕ) → distance_of l r < infinity → IsMarked l.settled r
      ⊎ Among (distance_of l r, r) l.waiting
  pub waits : (d r : ℕ) → Among (d, r) l.waiting
      → (level ≤ d) × (distance_of l r ≤ d) × (distance_of l r < infinity)
  pub depths : (i : ℕ) → i < length t.queue → depth t i ≤ level

-- an entry of the column at the place does not lead nearer to its row than is known, or not nearer than the limit
abbrev pub IsKnown : Priced → Tree → Labels → ℕ → ℕ → ℕ → Type 0
IsKnown x t l limit i r = ((distance_of l r < infinity)
    × (distance_of l r + dual x (stop t i) ≤ depth t i + paid x r (stop t i)))
    ⊎ (limit + dual x (stop t i) ≤ depth t i + paid x r (stop t i))

-- the entries of the first k columns
abbrev pub AreKnown : Priced → Tree → Labels → ℕ → ℕ → Type 0
AreKnown x t l limit k = (i r : ℕ) → i < k → IsEntry x.weighing.matrix r (stop t i)
    → IsKnown x t l limit i r

-- the nearest unmatched row so far, if there is one, is no nearer than the level
pub record IsBest {W : Type 0} (x : Priced) (m : List Place) (t : Tree) (n : Nearest W)
    (level : ℕ) : Type 0 where
  pub nearest : n.distance < infinity → IsNearest x m t n.row n.place n.distance
  pub above : level ≤ n.distance
  pub within : n.distance ≤ infinity

-- a matched row is given a distance
abbrev pub put : Labels → List (ℕ × ℕ) → ℕ → ℕ → ℕ → Labels
put l waiting r d p = record {
  distances = set l.distances r d;
  parents = set l.parents r p;
  settled = l.settled;
  waiting = waiting;
}

pub record Puts (l k : Labels) (r d p : ℕ) : Type 0 where
  pub heap : List (ℕ × ℕ)
  pub is : k ≡ put l heap r d p
  pub holds : (e : ℕ × ℕ) → Among e heap → (e ≡ (d, r)) ⊎ Among e l.waiting
  pub has : Among (d, r) heap
  pub keeps : (e : ℕ × ℕ) → Among e l.waiting → Among e heap

-- what a look at an entry changes, which leads from a place to a row at a distance
abbrev pub Looks : {W : Type 0} → List Place → ℕ → ℕ → ℕ → Labels → Nearest W → Labels → Nearest W
    → Type 0
Looks m r d p l n k o = ((k ≡ l) × (o ≡ n) × ((n.distance ≤ d) ⊎ (distance_of l r ≤ d)))
    ⊎ ((Puts l k r d p × (o ≡ n) × Among r (rows_of m) × (d < distance_of l r))
    ⊎ ((k ≡ l) × (o ≡ record { row = r; distance = d; place = p }) × (¬ Among r (rows_of m))
    × (d < n.distance)))

-- the nearest row that waits and is not settled is taken out, or none is below the limit
pub record Takes (l k : Labels) (d r limit : ℕ) : Type 0 where
  pub heap : List (ℕ × ℕ)
  pub is : k ≡ record l { waiting = heap }
  pub new : ¬ IsMarked l.settled r
  pub was : Among (d, r) l.waiting
  pub below : d < limit
  pub holds : (e : ℕ × ℕ) → Among e heap → Among e l.waiting × (d ≤ e.0)
  pub keeps : (e : ℕ × ℕ) → Among e l.waiting → (e ≡ (d, r))
      ⊎ (IsMarked l.settled e.1 ⊎ Among e heap)

abbrev pub AreBeyond : Labels → ℕ → Type 0
AreBeyond l limit = (e : ℕ × ℕ) → Among e l.waiting → IsMarked l.settled e.1 ⊎ (limit ≤ e.0)

-- no row has a distance, and nothing waits
pub record IsClear (rows : ℕ) (t : Tree) (l : Labels) : Type 0 where
  pub distances_are : length l.distances ≡ rows
  pub parents_are : length l.parents ≡ rows
  pub settled_are : length l.settled ≡ rows
  pub distances : (r : ℕ) → distance_of l r ≡ infinity
  pub settled : (r : ℕ) → ¬ IsMarked l.settled r
  pub waiting : l.waiting ≡ []
  pub queue : t.queue ≡ []
  pub depths : t.depths ≡ []

-- the list has each row that is to be cleared
pub record AreListed (l : Labels) (rows : List ℕ) : Type 0 where
  pub in_range : (r : ℕ) → Among r rows → r < length l.distances
  pub complete : (r : ℕ) → ¬ Among r rows → (distance_of l r ≡ infinity) × (¬ IsMarked l.settled r)

-- a search, at a level, that has looked at the entries of the first k columns
pub record IsSearch {W : Type 0} (x : Priced) (m : List Place) (root : ℕ) (t : Tree) (l : Labels)
    (n : Nearest W) (rows : List ℕ) (level k : ℕ) : Type 0 where
  pub grown : IsGrown x m root t
  pub kept : IsKept x m t l level
  pub best : IsBest x m t n level
  pub known : AreKnown x t l n.distance k
  pub listed : AreListed l rows

-- a matched row, in range of the labels
pub record IsLabelled (m : List Place) (l : Labels) (r : ℕ) : Type 0 where
  pub parent : r < length l.parents
  pub mark : r < length l.settled
  pub matched : Among r (rows_of m)
