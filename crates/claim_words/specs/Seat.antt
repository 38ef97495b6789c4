-- A seat at a board: what one thread knows of the words.
use Rattle.std.specs.Prelude.{◌≡◌, ◌⊎◌, ℕ, List, [], ◌∷◌, Option, Some}
use Rattle.bip_defs.specs.Lists.{Among}
use Rattle.bip_defs.specs.WordValues.{held}
use Rattle.board_seats.specs.Seat as seats
use Rattle.claim_words.specs.Board.{Board}
use Rattle.claim_words.specs.Listed.{Listed, Sight, claimed, looked, nothing, root_word, row_word, won, all_listed, followed_by}
pub use Rattle.board_seats.specs.Seat.{AreAllSeats, AreNumbered, HoldsAllSeats, first_seat, lists_of, with_listed}

abbrev pub Seat : Type 0
Seat = seats.Seat Board Listed

-- what all these seats list together, where the seat 0 is first: its own entries come last
abbrev pub gathered : List Seat → Listed
gathered [] = nothing
gathered (first ∷ others) = followed_by (all_listed (lists_of others)) first.listed

-- A seat with other lists.

-- after a claim of a row, whose word held `found`, for a column
abbrev pub after_claim : Seat → ℕ → ℕ → Option ℕ → Seat
after_claim s row col found = with_listed s (claimed s.listed row col found)

-- after a win of a root, whose word held `found`, for a leaf
abbrev pub after_win : Seat → ℕ → ℕ → Option ℕ → Seat
after_win s root leaf found = with_listed s (won s.listed root leaf found)

-- after a look at a word
abbrev pub after_look : Seat → Sight → Seat
after_look s sight = with_listed s (looked s.listed sight)

-- the same seat, whatever it lists
abbrev pub IsSameSeat : Seat → Seat → Type 0
IsSameSeat s t = (t.board ≡ s.board) × (t.number ≡ s.number) × (t.seats ≡ s.seats)

-- What a seat knows of a word: it was opened with this value, or the seat lists the value, or has
-- seen it.

abbrev pub KnowsRow : Seat → ℕ → ℕ → Type 0
KnowsRow s row col = (held s.board.rows row ≡ Some col)
    ⊎ (Among (row, col) s.listed.claims ⊎ Among (row_word row (Some col)) s.listed.seen)

abbrev pub KnowsRoot : Seat → ℕ → ℕ → Type 0
KnowsRoot s root leaf = (held s.board.roots root ≡ Some leaf)
    ⊎ (Among (root, leaf) s.listed.wins ⊎ Among (root_word root (Some leaf)) s.listed.seen)

-- New seats, which list nothing yet: one, so many from a number on, and all of a board.

abbrev pub new_seat : Board → ℕ → Seat
new_seat = seats.new_seat nothing

abbrev pub more_seats : Board → ℕ → ℕ → List Seat
more_seats = seats.more_seats nothing

abbrev pub new_seats : Board → ℕ → List Seat
new_seats = seats.new_seats nothing
