-- What a call on matchings leaves, by its status.
use Rattle.std.specs.Prelude.{◌≡◌, ◌≢◌, ℕ, ℤ, Bool, List, pos}
use Rattle.blocktri.specs.Answers.{HaveMatesRoom, TellsMatching}
use Rattle.blocktri.specs.Compressed.{CompressedLists, HasMatrix}

-- the lists that the mates are written to, and the number of pairs
pub record MatesLists : Type 0 where
  pub row_of_column : List ℕ
  pub column_of_row : List ℕ
  pub size : ℕ

abbrev pub mates_lists : List ℕ → List ℕ → ℕ → MatesLists
mates_lists row_of_column column_of_row size = record {
  row_of_column = row_of_column;
  column_of_row = column_of_row;
  size = size;
}

-- the lists have room for the mates
abbrev pub HasRoomForMates : CompressedLists → MatesLists → Type 0
HasRoomForMates l x = HaveMatesRoom l x.row_of_column x.column_of_row

-- at status 0 the answer stands in the lists; at any other all is as it was
pub record AnswersMatching (status : ℤ) (l : CompressedLists) (least : Bool)
    (old new : MatesLists) : Type 0 where
  pub found : status ≡ pos 0 → HasMatrix l (λ a. TellsMatching a least new.size old.row_of_column
      new.row_of_column old.column_of_row new.column_of_row)
  pub fit : status ≡ pos 0 → HasRoomForMates l old
  pub kept : status ≢ pos 0 → new ≡ old
