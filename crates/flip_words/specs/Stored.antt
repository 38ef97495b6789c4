-- How a board and a seat are stored.
use Rattle.std.specs.Prelude.{◌≡◌, ℕ, ◌+◌, ◌<◌, ◌^◌, List, length}
use Rattle.atomic_table.specs.Seated.{TableId}
use Rattle.bip_graph.specs.Mates.{Mated}
use Rattle.flip_words.specs.Accounts.{Settles}
use Rattle.flip_words.specs.Board.{Board}
use Rattle.flip_words.specs.WordCodes.{mates_in, takers_in}
use Rattle.flip_words.specs.Listed.{Listed}
use Rattle.flip_words.specs.Rule.{Known, Opened}
use Rattle.flip_words.specs.Seat.{Seat}

-- a board in this table
abbrev pub board_in : TableId → Opened → Board
board_in id o = record { id = id; rows = o.rows; cols = o.cols; mates = o.mates; trees = o.trees }

-- what a seat of this table shows
abbrev pub shown : TableId → Known → Seat
shown id k = record {
  board = board_in id k.opened;
  number = k.number;
  seats = k.seats;
  listed = k.listed;
}

-- The table has the words with which it was opened: the spare word, those of so many trees, and
-- those of so many rows and columns
pub record IsLaid (id : TableId) (rows cols known_rows known_cols : ℕ)
    (opened : List ℕ) : Type 0 where
  pub all : id.words ≡ length opened
  pub no_slots : id.slots ≡ 0
  pub many : length opened ≡ 1 + known_cols + (known_rows + known_cols)
  pub few_rows : rows < 2 ^ 32
  pub few_cols : cols < 2 ^ 32
  pub rows_known : known_rows ≡ rows
  pub cols_known : known_cols ≡ cols

-- the words of a board that is closed, for which these lists account
pub record AreLeft (b : Board) (l : Listed) (words : List ℕ) : Type 0 where
  pub as_many : length words ≡ 1 + b.cols + (b.rows + b.cols)
  pub settles : Settles b.cols b.mates (takers_in b.cols words) (mates_in b.cols words) l

-- mates of so many rows and columns
pub record AreSized (m : Mated) (rows cols : ℕ) : Type 0 where
  pub rows_are : length m.rows ≡ rows
  pub cols_are : length m.cols ≡ cols
