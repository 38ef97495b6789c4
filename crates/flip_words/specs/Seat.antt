-- A seat at a board: what one thread has done with the words, and what it knows of them.
use Rattle.std.specs.Prelude.{◌≡◌, ◌⊎◌, ℕ, List, Option, Some}
use Rattle.bip_defs.specs.Lists.{Among}
use Rattle.bip_defs.specs.WordValues.{held}
use Rattle.board_seats.specs.Seat as seats
use Rattle.flip_words.specs.Board.{Board}
use Rattle.flip_words.specs.Listed.{Listed, looked, nothing, put, took}
pub use Rattle.board_seats.specs.Seat.{AreAllSeats, AreNumbered, HoldsAllSeats, IsSameSeat, first_seat, lists_of, more_seats, with_listed}

abbrev pub Seat : Type 0
Seat = seats.Seat Board Listed

-- after a take of a tree, whose word held `found`
abbrev pub after_take : Seat → ℕ → Option ℕ → Seat
after_take s root found = with_listed s (took s.listed root s.number found)

abbrev pub after_set : Seat → ℕ → ℕ → Seat
after_set s vertex mate = with_listed s (put s.listed vertex mate)

abbrev pub after_look : Seat → ℕ → Option ℕ → Seat
after_look s vertex mate = with_listed s (looked s.listed vertex mate)

-- What a seat has done.

-- it took the tree
abbrev pub Took : Seat → ℕ → Type 0
Took s root = Among (root, s.number) s.listed.taken

-- it set the vertex to this mate, or to some
abbrev pub HasSetTo : Seat → ℕ → ℕ → Type 0
HasSetTo s vertex mate = Among (vertex, mate) s.listed.sets

abbrev pub HasSet : Seat → ℕ → Type 0
HasSet s vertex = (mate : ℕ) × HasSetTo s vertex mate

-- it took the tree of the vertex
abbrev pub TookTreeOf : Seat → ℕ → Type 0
TookTreeOf s vertex = (root : ℕ) × (held s.board.trees vertex ≡ Some root) × Took s root

-- it took the tree of the vertex, and did not set the vertex
abbrev pub LeavesUnset : Seat → ℕ → Type 0
LeavesUnset s vertex = TookTreeOf s vertex × (¬ HasSet s vertex)

-- it has seen this taker of the tree
abbrev pub HasSeen : Seat → ℕ → ℕ → Type 0
HasSeen s root number = Among (root, number) s.listed.seen

-- it knows this taker of the tree: itself, or one that it has seen
abbrev pub KnowsTaker : Seat → ℕ → ℕ → Type 0
KnowsTaker s root number = Among (root, number) s.listed.taken ⊎ HasSeen s root number

-- Each tree that it lists as taken it took itself, and each vertex that it set is of such a tree
pub record IsRightful (s : Seat) : Type 0 where
  pub taken : (root number : ℕ) → Among (root, number) s.listed.taken → number ≡ s.number
  pub sets : (vertex mate : ℕ) → HasSetTo s vertex mate → TookTreeOf s vertex

-- New seats, which list nothing yet: one, and all of a board.

abbrev pub new_seat : Board → ℕ → Seat
new_seat = seats.new_seat nothing

abbrev pub new_seats : Board → ℕ → List Seat
new_seats = seats.new_seats nothing
