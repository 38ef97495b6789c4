-- What a call on the heaviest diagonal leaves, by its status.
use Rattle.std.specs.Prelude.{◌≡◌, ◌≢◌, ℕ, ℤ, List, pos}
use Rattle.blocktri.specs.DiagonalCauses.{IsDiagonalRefusal}
use Rattle.blocktri.specs.Diagonals.{HasNoWantedPrices, HaveHeaviestLengths, TellsHeaviest}
use Rattle.blocktri.specs.Weighted.{HasWeights, WeightedLists}
use Rattle.blocktri.specs.declared.heaviest_diagonal.Sum.{Sum}
use Rattle.blocktri_c.specs.DiagonalStatuses.{RefusesDiagonal}

-- the lists that the pairs and prices are written to, and their sum
pub record HeaviestLists : Type 0 where
  pub row_of_column : List ℕ
  pub row_prices : List ℤ
  pub column_prices : List ℤ
  pub sum : Sum

abbrev pub heaviest_lists : List ℕ → List ℤ → List ℤ → Sum → HeaviestLists
heaviest_lists row_of_column row_prices column_prices sum = record {
  row_of_column = row_of_column;
  row_prices = row_prices;
  column_prices = column_prices;
  sum = sum;
}

-- each list is as long as the matrix asks, or is not wanted
abbrev pub HasRoomForPrices : WeightedLists → HeaviestLists → Type 0
HasRoomForPrices m l = HaveHeaviestLengths m l.row_of_column l.row_prices l.column_prices

-- at status 0 the answer stands in the lists; at any other all is as it was
pub record AnswersHeaviest (status : ℤ) (m : WeightedLists)
    (old new : HeaviestLists) : Type 0 where
  pub found : status ≡ pos 0 → HasWeights m
      (λ w. TellsHeaviest w new.sum old.row_of_column new.row_of_column old.row_prices
      new.row_prices old.column_prices new.column_prices)
  pub fit : status ≡ pos 0 → HasRoomForPrices m old
  pub kept : status ≢ pos 0 → (new.row_of_column ≡ old.row_of_column)
      × (new.row_prices ≡ old.row_prices) × (new.column_prices ≡ old.column_prices)
      × (new.sum ≡ old.sum)

-- at a refusal the status and the place of the fault tell its cause
pub record TellsHeaviestFault (status : ℤ) (m : WeightedLists) (lists : HeaviestLists)
    (old new : ℕ) : Type 0 where
  pub no_fault : status ≡ pos 0 → new ≡ old
  pub refused : status ≢ pos 0
      → RefusesDiagonal (IsDiagonalRefusal (HasRoomForPrices m lists)
      (HasNoWantedPrices lists.row_prices lists.column_prices) m) status old new
