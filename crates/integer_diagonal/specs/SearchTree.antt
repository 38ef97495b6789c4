-- A search from an unmatched column over reduced costs.
use Rattle.std.specs.Prelude.{◌≡◌, ◌⊎◌, ℕ, ◌+◌, ◌<◌, ◌≤◌, List, length, slice_index}
use Rattle.bip_defs.specs.Lists.{Among, AreDistinct}
use Rattle.bip_defs.specs.Matching.{cols_of, rows_of}
use Rattle.bip_defs.specs.Matrix.{IsEntry, Place, cols}
use Rattle.integer_diagonal.specs.Duals.{Priced, dual, paid}
use Rattle.bip_defs.specs.Queues.{Queue, at, heads}

-- the columns that a search has come to, each with the place of the one that led to it, and their distances
pub record Tree : Type 0 where
  pub queue : Queue
  pub depths : List ℕ

-- the column at a place
abbrev pub stop : Tree → ℕ → ℕ
stop t i = (at t.queue i).0

abbrev pub depth : Tree → ℕ → ℕ
depth t i = slice_index t.depths i

-- an entry of the column at the place leads to the row at this distance
pub record Reaches (x : Priced) (t : Tree) (r p d : ℕ) : Type 0 where
  pub within : p < length t.queue
  pub entry : IsEntry x.weighing.matrix r (stop t p)
  pub long : d + dual x (stop t p) ≡ depth t p + paid x r (stop t p)

-- the column at the place is the mate of a row that an earlier one reaches, at the same distance
abbrev pub IsLedTo : Priced → List Place → Tree → ℕ → Type 0
IsLedTo x m t i = (r : ℕ) × Among (r, stop t i) m × ((at t.queue i).1 < i)
    × Reaches x t r (at t.queue i).1 (depth t i)

-- the columns begin with the unmatched root, and each is there once
pub record IsGrown (x : Priced) (m : List Place) (root : ℕ) (t : Tree) : Type 0 where
  pub long : length t.depths ≡ length t.queue
  pub some : 0 < length t.queue
  pub starts : stop t 0 ≡ root
  pub begins : depth t 0 ≡ 0
  pub free : ¬ Among root (cols_of m)
  pub in_range : (c : ℕ) → Among c (heads t.queue) → c < cols x.weighing.matrix
  pub distinct : AreDistinct (heads t.queue)
  pub led : (i : ℕ) → 0 < i → i < length t.queue → IsLedTo x m t i

-- the row's mate is one of the columns, at a place with at most this much to pay
abbrev pub IsTaken : Priced → List Place → Tree → ℕ → ℕ → Type 0
IsTaken x m t i r = (j : ℕ) × (0 < j) × (j < length t.queue) × Among (r, stop t j) m
    × (depth t j + dual x (stop t i) ≤ depth t i + paid x r (stop t i))

-- no row is nearer than this but those whose mates are among the columns
pub record IsSearched (x : Priced) (m : List Place) (t : Tree) (distance : ℕ) : Type 0 where
  pub depths : (i : ℕ) → i < length t.queue → depth t i ≤ distance
  pub closed : (i r : ℕ) → i < length t.queue → IsEntry x.weighing.matrix r (stop t i)
      → IsTaken x m t i r ⊎ (distance + dual x (stop t i) ≤ depth t i + paid x r (stop t i))

-- an unmatched row at this distance
pub record IsNearest (x : Priced) (m : List Place) (t : Tree) (r p d : ℕ) : Type 0 where
  pub reaches : Reaches x t r p d
  pub free : ¬ Among r (rows_of m)

-- each entry of the columns is in a row whose mate is among them
abbrev pub IsStuck : Priced → List Place → Tree → Type 0
IsStuck x m t = (i r : ℕ) → i < length t.queue → IsEntry x.weighing.matrix r (stop t i)
    → (j : ℕ) × (0 < j) × (j < length t.queue) × Among (r, stop t j) m

-- the dual variables of the columns, and the prices of their mates, have risen by how much nearer they are than the distance
pub record IsRaised (x y : Priced) (m : List Place) (t : Tree) (distance : ℕ) : Type 0 where
  pub same : y.weighing ≡ x.weighing
  pub top : y.top ≡ x.top
  pub prices_are : length y.prices ≡ length x.prices
  pub duals_are : length y.duals ≡ length x.duals
  pub cols_up : (i : ℕ) → i < length t.queue
      → dual y (stop t i) + depth t i ≡ dual x (stop t i) + distance
  pub rows_up : (i r : ℕ) → i < length t.queue → Among (r, stop t i) m
      → slice_index y.prices r + depth t i ≡ slice_index x.prices r + distance
  pub cols_stay : (c : ℕ) → ¬ Among c (heads t.queue) → dual y c ≡ dual x c
  pub rows_stay : (r : ℕ) → ((i : ℕ) → i < length t.queue → ¬ Among (r, stop t i) m)
      → slice_index y.prices r ≡ slice_index x.prices r
  pub rows_rise : (r : ℕ) → slice_index x.prices r ≤ slice_index y.prices r
