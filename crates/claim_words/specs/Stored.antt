-- How a board and a seat are stored.
use Rattle.std.specs.Prelude.{◌≡◌, ℕ, ◌+◌, ◌≤◌, ◌<◌, ◌^◌, List, [], Option, Some, length, None}
use Rattle.atomic_table.specs.Seated.{TableId}
use Rattle.atomic_table.specs.Table.{Me}
use Rattle.claim_words.specs.Board.{Board}
use Rattle.claim_words.specs.WordCodes.{roots_in, rows_in, AllFit}
use Rattle.claim_words.specs.Rule.{Known, nobody}
use Rattle.claim_words.specs.Seat.{Seat}
use Rattle.sp_ids.specs.Limits.{max_workers}
use Rattle.board_seats.specs.View.{IsOpen, known_or}

-- what a seat of this table shows
abbrev pub shown : TableId → Known → Seat
shown id k = record {
  board = record { id = id; rows = k.opened.rows; roots = k.opened.roots };
  number = k.number;
  seats = k.seats;
  listed = k.listed;
}

-- such a seat, which keeps its number, below 64, and counts 64 seats at most
pub record IsStored {S : Type 0} (number : ℕ) (me : Me S (Option Known)) : Type 0 where
  pub live : IsOpen nobody me
  pub number_is : number ≡ (known_or nobody me.0).number
  pub below : number < max_workers
  pub few : (known_or nobody me.0).seats ≤ max_workers

-- a board in this table, which was opened with these words
abbrev pub board_in : TableId → ℕ → List ℕ → Board
board_in id rows opened = record {
  id = id;
  rows = rows_in rows opened;
  roots = roots_in rows opened;
}

-- the table has the words with which it was opened, and of these the spare word and so many rows'
-- words
pub record IsLaid (id : TableId) (rows known_rows : ℕ) (opened : List ℕ) : Type 0 where
  pub all : id.words ≡ length opened
  pub no_slots : id.slots ≡ 0
  pub few : length opened < 2 ^ 63
  pub rows_known : known_rows ≡ rows
  pub rows_there : 1 + known_rows ≤ length opened

-- the words of a closed board: the spare word and so many rows' words are among them, and each word
-- fits
pub record IsLeft (rows : ℕ) (words : List ℕ) : Type 0 where
  pub fits : AllFit words
  pub rows_there : 1 + rows ≤ length words

-- the seat of a worker
abbrev pub seat_in : Option Seat → Seat
seat_in None = shown (record {
  words = 0;
  slots = 0;
  views_name = 0;
  atom = 0;
  block = 0;
  offset = 0;
  slot_names = [];
}) nobody
seat_in (Some s) = s
