-- The board that four seats contest in a test: a hundred trees, each of the row and the column of
-- its number.
use Rattle.std.specs.Prelude.{◌≡◌, ◌⊎◌, ℕ, ◌+◌, ◌<◌, ◌≤◌, Some}
use Rattle.bip_defs.specs.WordValues.{held}
use Rattle.flip_words.specs.Board.{Board}
use Rattle.flip_words.specs.Seat.{HasSet, IsSameSeat, Seat}

pub record IsContested (b : Board) : Type 0 where
  pub rows : b.rows ≡ 100
  pub cols : b.cols ≡ 100
  pub row_tree : (t : ℕ) → t < 100 → held b.trees t ≡ Some t
  pub col_tree : (t : ℕ) → t < 100 → held b.trees (b.rows + t) ≡ Some t

-- the seat is at such a board, and has set vertices of the first trees alone
pub record HasVisited (b : Board) (trees : ℕ) (s : Seat) : Type 0 where
  pub board : s.board ≡ b
  pub contested : IsContested b
  pub sets : (v : ℕ) → HasSet s v → (v < trees) ⊎ ((b.rows ≤ v) × (v < b.rows + trees))

-- the same seat, which has visited so many trees
abbrev pub Visits : Board → ℕ → Seat → Seat → Type 0
Visits b trees s t = IsSameSeat s t × HasVisited b trees t
