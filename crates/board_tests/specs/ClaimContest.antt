-- The board of 1,000 rows and 4 roots that four seats contest in a test.
use Rattle.std.specs.Prelude.{◌≡◌, length}
use Rattle.claim_words.specs.Board.{Board}
use Rattle.claim_words.specs.Seat.{Seat}

abbrev pub IsContested : Board → Type 0
IsContested b = (length b.rows ≡ 1000) × (length b.roots ≡ 4)

-- a seat of such a board
abbrev pub Contests : Board → Seat → Type 0
Contests b s = (s.board ≡ b) × IsContested b
