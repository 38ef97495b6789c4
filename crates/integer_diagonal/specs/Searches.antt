-- What a search from one column is asked and what it finds, and what is made of it.
use Rattle.std.specs.Prelude.{◌≡◌, ℕ, true, ◌+◌, ◌^◌, ◌<◌, ◌≤◌, List, [], ◌∷◌, ◌++◌, length, set, slice_index}
use Rattle.bip_defs.specs.Lists.{Among, AreDistinct}
use Rattle.bip_defs.specs.Matching.{Covers, cols_of, rows_of}
use Rattle.bip_defs.specs.Matrix.{Place, cols}
use Rattle.bip_defs.specs.Queues.{Queue, at, heads}
use Rattle.integer_diagonal.specs.declared.assignment.Assignment.{Assignment}
use Rattle.integer_diagonal.specs.declared.search.DijkstraSearch.{DijkstraSearch}
use Rattle.integer_diagonal.specs.declared.search.Nearest.{Nearest}
use Rattle.integer_diagonal.specs.Amounts.{HasRoom, infinity}
use Rattle.integer_diagonal.specs.Duals.{IsAssignment, Priced, priced}
use Rattle.integer_diagonal.specs.Labels.{AreListed, IsSearch, labels_of, tree_of}
use Rattle.integer_diagonal.specs.SearchTree.{IsGrown, IsNearest, IsSearched, IsStuck, Tree, depth}
use Rattle.sp_pattern.specs.Weights.{Weighing}

-- a search can begin at the root, a column that has no mate
pub record CanSearch {W : Type 0} (w : Weighing) (a : Assignment W) (root limit : ℕ) : Type 0 where
  pub assignment : IsAssignment w a
  pub within : root < cols w.matrix
  pub free : ¬ Among root (cols_of a.matching.pairs)
  pub few : cols w.matrix < 2 ^ 32
  -- no sum passes the limit
  pub room : HasRoom (cols w.matrix) a.top limit

-- a search that has looked at the entries of the first k columns, and is as far as the place is
abbrev pub HasLooked : {W : Type 0} → Weighing → Assignment W → ℕ → DijkstraSearch W → Nearest W
    → ℕ → ℕ → Type 0
HasLooked w a root s n place k = IsSearch (priced w a) a.matching.pairs root (tree_of s)
    (labels_of s) n s.reached.items (depth (tree_of s) place) k

-- what a search from the root found: a nearest unmatched row, or that there is none
pub record Finds {W : Type 0} (x : Priced) (m : List Place) (root : ℕ) (t : Tree)
    (n : Nearest W) : Type 0 where
  pub tree : IsGrown x m root t
  pub within : n.distance ≤ infinity
  pub found : n.distance < infinity
      → IsNearest x m t n.row n.place n.distance × IsSearched x m t n.distance
  pub stuck : n.distance ≡ infinity → IsStuck x m t

-- the search can be made ready for the next one, in a matrix of so many rows
pub record CanBeCleared {W : Type 0} (rows : ℕ) (s : DijkstraSearch W) : Type 0 where
  pub listed : AreListed (labels_of s) s.reached.items
  pub distances : length s.distances.items ≡ rows
  pub settled : length s.settled.items ≡ rows
  pub parents : length s.parents.items ≡ rows

-- where the one search lists each row that is to be cleared, so does the other
abbrev pub StaysListed : {W : Type 0} → DijkstraSearch W → DijkstraSearch W → Type 0
StaysListed s t = AreListed (labels_of s) s.reached.items → AreListed (labels_of t) t.reached.items

-- the columns of the queue and their mates can rise by how much nearer they are than the distance
pub record CanRise {W : Type 0} (a : Assignment W) (queue : Queue) (depths : List ℕ)
    (distance limit : ℕ) : Type 0 where
  pub lengths : length depths ≡ length queue
  pub in_range : (i : ℕ) → i < length queue → (at queue i).0 < length a.duals.items
  pub cols : a.matching.cols ≡ length a.duals.items
  pub rows_in_range : (r c : ℕ) → Among (r, c) a.matching.pairs → r < length a.prices.items
  -- no column is there twice, and no two pairs share a row or a column
  pub distinct : AreDistinct (heads queue)
  pub rows_differ : AreDistinct (rows_of a.matching.pairs)
  pub cols_differ : AreDistinct (cols_of a.matching.pairs)
  pub near : (i : ℕ) → i < length queue → slice_index depths i ≤ distance
  -- no sum passes the limit
  pub duals_fit : (c : ℕ) → slice_index a.duals.items c + distance < limit
  pub prices_fit : (r : ℕ) → slice_index a.prices.items r + distance < limit

-- an assignment at other prices, in which no row and no column has lost its mate
pub record Extends {W : Type 0} (w : Weighing) (a b : Assignment W) : Type 0 where
  pub assignment : IsAssignment w b
  pub top : b.top ≡ a.top
  pub covered : Covers a.matching.pairs b.matching.pairs

-- the matched row is settled: its mate stands at the end of the queue, at the distance, below the
-- column that reached the row
pub record Settles {W : Type 0} (m : List Place) (row distance : ℕ) (s t : DijkstraSearch W) : Type 0 where
  pub mate : ℕ
  pub matched : Among (row, mate) m
  pub tree : tree_of t ≡ record {
    queue = s.queue.items ++ (mate, slice_index s.parents.items row) ∷ [];
    depths = s.depths.items ++ distance ∷ [];
  }
  pub labels : labels_of t ≡ record (labels_of s) { settled = set s.settled.items row true }
  pub listed : t.reached.items ≡ s.reached.items
