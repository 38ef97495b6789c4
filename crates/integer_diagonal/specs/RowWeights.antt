-- The weights of a matrix's entries, row by row in one flat list.
use Rattle.std.specs.Prelude.{◌≡◌, ℕ, ◌+◌, ◌<◌, ◌≤◌, List, length, map, slice_index}
use Rattle.bip_defs.specs.Matrix.{row_list}
use Rattle.bip_defs.specs.Pieces.{piece}
use Rattle.sp_pattern.specs.Weights.{Weighing, weight_at}

-- the weights of a row's entries, in the order of its columns
abbrev pub weights_in_row : Weighing → ℕ → List ℕ
weights_in_row w r = map (λ c. weight_at w r c) (row_list w.matrix r)

-- those of each of the first rows stand from its start to the next one
pub record AreRowWeights (w : Weighing) (rows : ℕ) (starts flat : List ℕ) : Type 0 where
  pub long : length starts ≡ rows + 1
  pub rise : (r : ℕ) → r < rows → slice_index starts r ≤ slice_index starts (r + 1)
  pub within : (r : ℕ) → r < rows → slice_index starts (r + 1) ≤ length flat
  pub parts : (r : ℕ) → r < rows → piece starts flat r ≡ weights_in_row w r
