-- Prices of rows and columns, and what they show of a diagonal.
use Rattle.std.specs.Prelude.{◌≡◌, ℕ, ℤ, pos, ◌+ℤ◌, ◌≤ℤ◌, List, length, slice_index_or, sum_by}
use Rattle.bip_defs.specs.Lists.{Among}
use Rattle.bip_defs.specs.Matrix.{IsEntry, Place, cols}
use Rattle.sp_pattern.specs.Weights.{Weighing, weight_at}

-- the sum of the weights of these entries
abbrev pub total : Weighing → List Place → ℕ
total w m = sum_by (λ (p : Place). weight_at w p.0 p.1) m

-- the price of a row or a column
abbrev pub price : List ℤ → ℕ → ℤ
price prices i = slice_index_or prices i (pos 0)

-- each entry weighs at most the prices of its row and its column together, and each of the pairs as much as these
pub record AreFair (w : Weighing) (m : List Place) (u v : List ℤ) : Type 0 where
  pub by_row : length u ≡ w.matrix.rows
  pub by_col : length v ≡ cols w.matrix
  pub covers : (r c : ℕ) → IsEntry w.matrix r c → pos (weight_at w r c) ≤ℤ (price u r +ℤ price v c)
  pub meets : (r c : ℕ) → Among (r, c) m → (price u r +ℤ price v c) ≡ pos (weight_at w r c)
