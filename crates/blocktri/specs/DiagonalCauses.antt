-- Why there is no answer of a matrix with values.
use Rattle.std.specs.Prelude.{◌≡◌, ◌≢◌, IfErr, IfOk, Result}
use Rattle.bip_defs.specs.Matrix.{Matrix, cols}
use Rattle.blocktri.specs.declared.refusals.Refusal.TheVariants.{Columns, Lengths}
use Rattle.blocktri.specs.Compressed.{AreCompressed}
use Rattle.blocktri.specs.PerfectMatchings.{HasNoPerfectMatching}
use Rattle.blocktri.specs.Weighted.{HasWeights, IsFirstGivenPast, WeightedLists}
use Rattle.blocktri.specs.declared.diagonal_refusals.DiagonalRefusal.{DiagonalRefusal}
use Rattle.blocktri.specs.declared.diagonal_refusals.DiagonalRefusal.TheVariants.{Lists, SumLimit, NotSquare, Singular, PriceLimit}
use Rattle.sp_pattern.specs.ColumnErrors.{IsColumnsError}
use Rattle.sp_pattern.specs.Weights.{Weighing}

-- the matrix is square, and no matching of it covers all its rows and columns
pub record IsSquareSingular (a : Matrix) : Type 0 where
  pub square : a.rows ≡ cols a
  pub none : HasNoPerfectMatching a

-- by the order in which they are looked for, where `Fit` is that all lengths are right, and `Large`
-- when no fair prices fit
abbrev pub IsDiagonalRefusal : Type 0 → (Weighing → Type 0) → WeightedLists → DiagonalRefusal
    → Type 0
IsDiagonalRefusal Fit Large m (Lists Lengths) = ¬ Fit
IsDiagonalRefusal Fit Large m (Lists (Columns error)) =
    Fit × IsColumnsError m.lists.others m.lists.starts m.lists.ids error
IsDiagonalRefusal Fit Large m (SumLimit at) =
    Fit × AreCompressed m.lists × IsFirstGivenPast m at
IsDiagonalRefusal Fit Large m NotSquare =
    Fit × HasWeights m (λ w. w.matrix.rows ≢ cols w.matrix)
IsDiagonalRefusal Fit Large m Singular =
    Fit × HasWeights m (λ w. IsSquareSingular w.matrix)
IsDiagonalRefusal Fit Large m PriceLimit = Fit × HasWeights m Large

-- a refusal has its cause, and an answer comes only where all lengths are right
pub record RefusesDiagonalRightly {S : Type 0} (Fit : Type 0) (Large : Weighing → Type 0)
    (m : WeightedLists) (result : Result S DiagonalRefusal) : Type 0 where
  pub fit : IfOk result (λ s. Fit)
  pub cause : IfErr result (IsDiagonalRefusal Fit Large m)
