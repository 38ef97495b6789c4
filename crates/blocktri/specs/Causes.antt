-- Why there is no answer.
use Rattle.std.specs.Prelude.{ℕ, IfErr, IfOk, List, Result}
use Rattle.blocktri.specs.Compressed.{CompressedLists}
use Rattle.blocktri.specs.declared.refusals.Refusal.{Refusal}
use Rattle.blocktri.specs.declared.refusals.Refusal.TheVariants.{Lengths, Columns}
use Rattle.sp_pattern.specs.ColumnErrors.{IsColumnsError}

-- a list to be written has not the right length, where `Fit` is that all have it; else the lists of
-- the matrix are at fault, or the memory
abbrev pub IsRefusal : Type 0 → ℕ → List ℕ → List ℕ → Refusal → Type 0
IsRefusal Fit others starts ids Lengths = ¬ Fit
IsRefusal Fit others starts ids (Columns error) = Fit × IsColumnsError others starts ids error

-- a refusal has its cause, and an answer comes only where all lengths are right
pub record RefusesRightly {S : Type 0} (Fit : Type 0) (l : CompressedLists)
    (result : Result S Refusal) : Type 0 where
  pub fit : IfOk result (λ s. Fit)
  pub cause : IfErr result (IsRefusal Fit l.others l.starts l.ids)
