-- What C is told where there is no answer of a matrix with values.
use Rattle.std.specs.Prelude.{◌≡◌, ℕ, ℤ, Bool, List, pos}
use Rattle.blocktri.specs.declared.diagonal_refusals.DiagonalRefusal.{DiagonalRefusal}
use Rattle.blocktri.specs.declared.diagonal_refusals.DiagonalRefusal.TheVariants.{Lists, SumLimit, NotSquare, Singular, PriceLimit}
use Rattle.blocktri.specs.Weighted.{WeightedLists}
use Rattle.blocktri_c.specs.Statuses.{fault_of, status_of}

-- the matrix that is given
abbrev pub weighted_lists : ℕ → List ℕ → List ℕ → List ℤ → Bool → WeightedLists
weighted_lists others starts ids values by_rows = record {
  lists = record { others = others; starts = starts; ids = ids; by_rows = by_rows };
  values = values;
}

abbrev pub diagonal_status_of : DiagonalRefusal → ℤ
diagonal_status_of (Lists refusal) = status_of refusal
diagonal_status_of (SumLimit at) = pos 4
diagonal_status_of NotSquare = pos 2
diagonal_status_of Singular = pos 1
diagonal_status_of PriceLimit = pos 24

-- the place of the fault; of what has no place, what stood there
abbrev pub diagonal_fault_of : DiagonalRefusal → ℕ → ℕ
diagonal_fault_of (Lists refusal) old = fault_of refusal old
diagonal_fault_of (SumLimit at) old = at
diagonal_fault_of NotSquare old = old
diagonal_fault_of Singular old = old
diagonal_fault_of PriceLimit old = old

-- the status and the fault's place tell a refusal of which P holds
pub record RefusesDiagonal (P : DiagonalRefusal → Type 0) (status : ℤ) (old new : ℕ) : Type 0 where
  pub refusal : DiagonalRefusal
  pub cause : P refusal
  pub status_is : status ≡ diagonal_status_of refusal
  pub fault_is : new ≡ diagonal_fault_of refusal old
