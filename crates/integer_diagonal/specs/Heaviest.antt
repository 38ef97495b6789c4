-- What is answered of the heaviest diagonal.
use Rattle.std.specs.Prelude.{◌≡◌, ◌≢◌, ℤ, pos, List}
use Rattle.bip_defs.specs.Bottleneck.{IsFull, IsSingular}
use Rattle.bip_defs.specs.Lists.{IsRising}
use Rattle.bip_defs.specs.Matching.{cols_of}
use Rattle.bip_defs.specs.Matrix.{Place, cols}
use Rattle.bip_graph.specs.declared.answers.Heaviest.{Heaviest}
use Rattle.bip_graph.specs.declared.answers.Heaviest.TheVariants.{Diagonal, Rectangular, Singular}
use Rattle.integer_diagonal.specs.Prices.{AreFair, total}
use Rattle.sp_pattern.specs.Weights.{Weighing}

-- a full matching, in order of its columns, with fair prices and the sum of its weights
pub record IsHeaviestDiagonal (w : Weighing) (m : List Place) (u v : List ℤ)
    (sum : ℤ) : Type 0 where
  pub square : w.matrix.rows ≡ cols w.matrix
  pub full : IsFull w.matrix m
  pub rising : IsRising (cols_of m)
  pub fair : AreFair w m u v
  pub sum_is : sum ≡ pos (total w m)

-- the answer by its three cases, of which one matrix meets one
abbrev pub IsHeaviest : Weighing → Heaviest → Type 0
IsHeaviest w Rectangular = w.matrix.rows ≢ cols w.matrix
IsHeaviest w (Singular rank hall) = IsSingular w.matrix rank hall.items
IsHeaviest w (Diagonal pairs u v sum) = IsHeaviestDiagonal w pairs.items u.items v.items sum
