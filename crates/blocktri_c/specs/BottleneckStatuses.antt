-- What a call on the bottleneck leaves, by its status.
use Rattle.std.specs.Prelude.{◌≡◌, ◌≢◌, ℕ, ℤ, List, pos}
use Rattle.blocktri.specs.DiagonalCauses.{IsDiagonalRefusal}
use Rattle.blocktri.specs.Diagonals.{HaveBottleneckLengths, TellsBottleneck}
use Rattle.blocktri.specs.Weighted.{HasWeights, WeightedLists}
use Rattle.blocktri_c.specs.DiagonalStatuses.{RefusesDiagonal}

-- the lists that the pairs and the columns are written to, the least weight, and how many columns
-- show it
pub record BottleneckLists : Type 0 where
  pub row_of_column : List ℕ
  pub least : ℕ
  pub columns : List ℕ
  pub columns_count : ℕ

abbrev pub bottleneck_lists : List ℕ → ℕ → List ℕ → ℕ → BottleneckLists
bottleneck_lists row_of_column least columns columns_count = record {
  row_of_column = row_of_column;
  least = least;
  columns = columns;
  columns_count = columns_count;
}

-- each list is as long as the matrix asks, or is not wanted
abbrev pub HasRoomForColumns : WeightedLists → BottleneckLists → Type 0
HasRoomForColumns m l = HaveBottleneckLengths m l.row_of_column l.columns

-- at status 0 the answer stands in the lists; at any other all is as it was
pub record AnswersBottleneck (status : ℤ) (m : WeightedLists)
    (old new : BottleneckLists) : Type 0 where
  pub found : status ≡ pos 0 → HasWeights m
      (λ w. TellsBottleneck w (record { weight = new.least; columns = new.columns_count })
      old.row_of_column new.row_of_column old.columns new.columns)
  pub fit : status ≡ pos 0 → HasRoomForColumns m old
  pub kept : status ≢ pos 0 → (new.row_of_column ≡ old.row_of_column) × (new.least ≡ old.least)
      × (new.columns ≡ old.columns) × (new.columns_count ≡ old.columns_count)

-- at a refusal the status and the place of the fault tell its cause
pub record TellsBottleneckFault (status : ℤ) (m : WeightedLists) (lists : BottleneckLists)
    (old new : ℕ) : Type 0 where
  pub no_fault : status ≡ pos 0 → new ≡ old
  pub refused : status ≢ pos 0
      → RefusesDiagonal (IsDiagonalRefusal (HasRoomForColumns m lists) (λ w. ⊥) m) status old new
