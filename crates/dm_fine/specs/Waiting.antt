-- Where the order of components stands while components wait for one another.
use Rattle.std.specs.Prelude.{◌≡◌, ◌≢◌, ℕ, ◌<◌, ◌≤◌, List, [], length, map, slice_index}
use Rattle.bip_defs.specs.Lists.{Among, AreDistinct}
use Rattle.bip_graph.specs.Matching.{none}
use Rattle.dm_fine.specs.BlockOrder.{Follow, IsNext}
use Rattle.dm_fine.specs.Layout.{IsLayout, Layout, LeadsTo}
use Rattle.dm_fine.specs.Waits.{Chain, IsPassed, at_of, col_of, first_of}
use Rattle.dm_fine.specs.declared.order.Waiting.{Waiting}
use Rattle.dm_fine.specs.declared.waits.Wait.{Wait}
use Rattle.id_groups.specs.Groups.{block_of, group}

-- a row has the number of its component, or none where that is placed or the row has none
pub record AreMarks (t : Layout) (placed marks : List ℕ) : Type 0 where
  pub long : length marks ≡ t.matrix.rows
  pub sound : (r : ℕ) → r < t.matrix.rows → slice_index marks r ≢ none
      → (slice_index marks r < length t.cols) × Among r (group t.rows (slice_index marks r))
      × (¬ Among (slice_index marks r) placed)
  pub complete : (k r : ℕ) → k < length t.cols → Among r (group t.rows k) → ¬ Among k placed
      → slice_index marks r ≡ k

-- the rows of component k have no number any more, and others are as they were
pub record AreMarkedOff (t : Layout) (k : ℕ) (old new : List ℕ) : Type 0 where
  pub long : length new ≡ length old
  pub gone : (r : ℕ) → Among r (group t.rows k) → slice_index new r ≡ none
  pub others : (r : ℕ) → ¬ Among r (group t.rows k) → slice_index new r ≡ slice_index old r

-- all entries of component j are in its own rows, in those of placed ones or outside
pub record IsReady (t : Layout) (placed : List ℕ) (hole : ℕ) (marks : List ℕ)
    (cursor j : ℕ) : Type 0 where
  pub before : j < cursor
  pub left : ¬ Among j placed
  pub other : j ≢ hole
  pub passed : IsPassed t marks j (length (group t.cols j)) 0

-- component j waits at v
pub record IsHeld (t : Layout) (placed : List ℕ) (hole : ℕ) (marks : List ℕ) (ws : List Wait)
    (ready : List ℕ) (cursor j v : ℕ) : Type 0 where
  pub before : j < cursor
  pub left : ¬ Among j placed
  pub idle : ¬ Among j ready
  pub other : j ≢ hole
  pub on : v < length t.cols
  pub leads : LeadsTo t j v
  pub passed : IsPassed t marks j (col_of ws j) (at_of ws j)

-- what has become of a component that was looked at
pub data Stands (placed : List ℕ) (lists : ℕ → List ℕ) (hole : ℕ) (ready : List ℕ)
    (j : ℕ) : Type 0 where
  is_placed : Among j placed → Stands placed lists hole ready j
  is_ready : Among j ready → Stands placed lists hole ready j
  is_hole : j ≡ hole → Stands placed lists hole ready j
  is_held : (v : ℕ) → Among j (lists v) → Stands placed lists hole ready j

-- These components are placed, in order, and these wait at each. `hole` is one that is looked at, and `open` a placed one
-- whose list is not gone over yet; none where there is none.
pub record IsWaiting (t : Layout) (placed : List ℕ) (lists : ℕ → List ℕ) (hole «open» : ℕ)
    (marks : List ℕ) (ws : List Wait) (ready : List ℕ) (cursor : ℕ) : Type 0 where
  pub laid_out : IsLayout t
  pub many : length ws ≡ length t.cols
  pub within : cursor ≤ length t.cols
  pub marked : AreMarks t placed marks
  pub follow : Follow t [] placed
  pub early : (j : ℕ) → Among j placed → j < cursor
  pub hole_in : hole ≢ none → (hole < cursor) × (¬ Among hole placed)
  pub are_ready : (j : ℕ) → Among j ready → IsReady t placed hole marks cursor j
  pub are_held : (j v : ℕ) → Among j (lists v) → IsHeld t placed hole marks ws ready cursor j v
  pub apart : (u v j : ℕ) → Among j (lists u) → Among j (lists v) → u ≡ v
  pub distinct : (v : ℕ) → AreDistinct (lists v)
  pub chains : (v : ℕ) → v < length t.cols → ¬ Among v placed → Chain ws (first_of ws v) (lists v)
  pub stand : (j : ℕ) → j < cursor → Stands placed lists hole ready j
  pub no_more : (v j : ℕ) → Among v placed → v ≢ «open» → ¬ Among j (lists v)

-- between two components
pub record IsOrdering (t : Layout) (s : Waiting) : Type 0 where
  pub placed : List ℕ
  pub lists : ℕ → List ℕ
  pub waiting : IsWaiting t placed lists none none s.of_rows.items s.waits.items s.ready.members
      s.cursor
  pub bound : s.ready.bound ≡ length t.cols
  pub blocks : s.blocks ≡ map (block_of t.rows t.cols) placed

-- component k is the next
pub record IsTaken (t : Layout) (k : ℕ) (s : Waiting) : Type 0 where
  pub placed : List ℕ
  pub lists : ℕ → List ℕ
  pub waiting : IsWaiting t placed lists k none s.of_rows.items s.waits.items s.ready.members
      s.cursor
  pub next : IsNext t placed k
  pub bound : s.ready.bound ≡ length t.cols
  pub blocks : s.blocks ≡ map (block_of t.rows t.cols) placed

-- the list of component k, which is placed, is gone over, from p on
pub record IsReleasing (t : Layout) (k p : ℕ) (s : Waiting) : Type 0 where
  pub placed : List ℕ
  pub lists : ℕ → List ℕ
  pub waiting : IsWaiting t placed lists none k s.of_rows.items s.waits.items s.ready.members
      s.cursor
  pub on : Among k placed
  pub chain : Chain s.waits.items p (lists k)
  pub bound : s.ready.bound ≡ length t.cols
  pub blocks : s.blocks ≡ map (block_of t.rows t.cols) placed

-- nothing is left to look at
pub record IsAtEnd (t : Layout) (s : Waiting) : Type 0 where
  pub ordering : IsOrdering t s
  pub none_ready : s.ready.members ≡ []
  pub all_seen : s.cursor ≡ length t.cols
