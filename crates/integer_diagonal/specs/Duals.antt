-- A matching of cheapest entries, with the prices of rows and the dual variables of columns.
use Rattle.std.specs.Prelude.{◌≡◌, ℕ, ◌+◌, ◌-◌, ◌*◌, ◌<◌, ◌≤◌, List, map, filter, length, nat_eq, slice_index}
use Rattle.bip_defs.specs.Lists.{Among}
use Rattle.bip_defs.specs.Matching.{IsMatching, cols_of, rows_of}
use Rattle.bip_defs.specs.Matrix.{IsEntry, Matrix, Place, cols, column, upto}
use Rattle.bip_graph.specs.Matching.{Pairing}
use Rattle.integer_diagonal.specs.declared.assignment.Assignment.{Assignment}
use Rattle.sp_pattern.specs.Weights.{Weighing, weight_at}

-- no entry weighs more than this
abbrev pub AreAtMost : Weighing → ℕ → Type 0
AreAtMost w top = (r c : ℕ) → Among r (column w.matrix c) → weight_at w r c ≤ top

-- what an entry costs is how much less it weighs
abbrev pub cost : ℕ → Weighing → ℕ → ℕ → ℕ
cost top w r c = top - weight_at w r c

-- prices of rows, and dual variables of columns, where no entry weighs more than `top`
pub record Priced : Type 0 where
  pub weighing : Weighing
  pub top : ℕ
  pub prices : List ℕ
  pub duals : List ℕ

-- the price of a row, and the cost of its entry in a column
abbrev pub paid : Priced → ℕ → ℕ → ℕ
paid x r c = slice_index x.prices r + cost x.top x.weighing r c

abbrev pub dual : Priced → ℕ → ℕ
dual x c = slice_index x.duals c

-- the rows whose entries in a column cost as much as its dual variable
abbrev pub cheap_rows : Priced → ℕ → List ℕ
cheap_rows x c = filter (λ r. nat_eq (paid x r c) (dual x c)) (column x.weighing.matrix c)

-- these entries alone
abbrev pub cheap : Priced → Matrix
cheap x = record {
  rows = x.weighing.matrix.rows;
  columns = map (cheap_rows x) (upto (cols x.weighing.matrix));
}

-- no entry costs less than its column's dual variable
pub record IsFeasible (x : Priced) : Type 0 where
  pub prices_are : length x.prices ≡ x.weighing.matrix.rows
  pub duals_are : length x.duals ≡ cols x.weighing.matrix
  pub small : (r c : ℕ) → IsEntry x.weighing.matrix r c → weight_at x.weighing r c ≤ x.top
  pub covers : (r c : ℕ) → IsEntry x.weighing.matrix r c → dual x c ≤ paid x r c

-- and no entry can cost as much as this
pub record IsPayable (x : Priced) (limit : ℕ) : Type 0 where
  pub feasible : IsFeasible x
  pub fits : (r : ℕ) → slice_index x.prices r + x.top < limit

-- no price is greater
abbrev pub most : Priced → ℕ
most x = 2 * (cols x.weighing.matrix * x.top) + 2 * x.top

-- and where a row is unmatched, its price is still what one entry can cost, and where a column is, its dual variable what two can
pub record IsBounded (x : Priced) (m : List Place) : Type 0 where
  pub free_rows : (r : ℕ) → ¬ Among r (rows_of m) → slice_index x.prices r ≤ x.top
  pub free_cols : (c : ℕ) → ¬ Among c (cols_of m) → dual x c ≤ x.top + x.top
  pub prices : (r : ℕ) → slice_index x.prices r ≤ most x

-- a matching of entries that cost no more than the dual variables
pub record IsAssigned (x : Priced) (m : Pairing) : Type 0 where
  pub rows_are : m.rows ≡ x.weighing.matrix.rows
  pub cols_are : m.cols ≡ cols x.weighing.matrix
  pub feasible : IsFeasible x
  pub matching : IsMatching (cheap x) m.pairs
  pub bounded : IsBounded x m.pairs

-- the prices and the dual variables of an assignment, by costs from this
abbrev pub priced_from : {W : Type 0} → Weighing → ℕ → Assignment W → Priced
priced_from w top s =
    record { weighing = w; top = top; prices = s.prices.items; duals = s.duals.items }

abbrev pub priced : {W : Type 0} → Weighing → Assignment W → Priced
priced w s = priced_from w s.top s

abbrev pub IsAssignment : {W : Type 0} → Weighing → Assignment W → Type 0
IsAssignment w s = IsAssigned (priced w s) s.matching
