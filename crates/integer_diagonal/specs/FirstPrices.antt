-- The dual variables and the prices to begin with.
use Rattle.std.specs.Prelude.{◌≡◌, ◌⊎◌, ℕ, ◌+◌, ◌<◌, ◌≤◌, List, length, slice_index}
use Rattle.bip_defs.specs.Lists.{Among}
use Rattle.bip_defs.specs.Matrix.{IsEntry, column}
use Rattle.integer_diagonal.specs.Duals.{cost}
use Rattle.sp_pattern.specs.Weights.{Weighing}

-- an entry costs so much less the greatest of all costs, or it is twice that
abbrev pub IsTight : Weighing → ℕ → ℕ → ℕ → Type 0
IsTight w top c o = (o ≡ top + top)
    ⊎ ((r : ℕ) × Among r (column w.matrix c) × (top + cost top w r c ≡ o))

-- of the first k columns: the least cost of an entry, and the greatest of all costs
pub record AreFirstDuals (w : Weighing) (top k : ℕ) (duals : List ℕ) : Type 0 where
  pub duals_are : length duals ≡ k
  pub low : (c : ℕ) → slice_index duals c ≤ top + top
  pub high : (c : ℕ) → c < k → top ≤ slice_index duals c
  pub covers : (r c : ℕ) → c < k → IsEntry w.matrix r c → slice_index duals c ≤ top + cost top w r c
  pub met : (c : ℕ) → c < k → IsTight w top c (slice_index duals c)

-- no entry of the first k columns costs less than its column's dual variable
pub record AreFirstPrices (w : Weighing) (top k : ℕ) (duals prices : List ℕ) : Type 0 where
  pub prices_are : length prices ≡ w.matrix.rows
  pub low : (r : ℕ) → slice_index prices r ≤ top
  pub covers : (r c : ℕ) → c < k → IsEntry w.matrix r c
      → slice_index duals c ≤ slice_index prices r + cost top w r c
