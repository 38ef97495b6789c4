-- New prices and dual variables of a matching, fair or not.
use Rattle.std.specs.Prelude.{◌≡◌, ℕ, ◌+◌, ◌≤◌, List, length, slice_index}
use Rattle.bip_defs.specs.Lists.{Among}
use Rattle.bip_defs.specs.Matrix.{IsEntry, Place, cols}
use Rattle.bip_graph.specs.Matching.{IsMatchingOf, Pairing}
use Rattle.integer_diagonal.specs.Duals.{Priced, dual, paid}
use Rattle.sp_pattern.specs.Weights.{weight_at}

-- a matching with prices and dual variables in range, fair or not
pub record IsCandidate (x : Priced) (m : Pairing) : Type 0 where
  pub matching : IsMatchingOf x.weighing.matrix m
  pub small : (r c : ℕ) → IsEntry x.weighing.matrix r c → weight_at x.weighing r c ≤ x.top
  pub prices_are : length x.prices ≡ x.weighing.matrix.rows
  pub duals_are : length x.duals ≡ cols x.weighing.matrix
  pub prices : (r : ℕ) → slice_index x.prices r ≤ x.top
  pub duals : (c : ℕ) → dual x c ≤ x.top + x.top

-- an entry costs no less than its column's dual variable, and as much where its row and its column are a pair
abbrev pub IsFairEntry : Priced → List Place → ℕ → ℕ → Type 0
IsFairEntry x m r c = (dual x c ≤ paid x r c) × (Among (r, c) m → paid x r c ≡ dual x c)

-- all entries of a column
abbrev pub IsFairColumn : Priced → List Place → ℕ → Type 0
IsFairColumn x m c = (r : ℕ) → IsEntry x.weighing.matrix r c → IsFairEntry x m r c
