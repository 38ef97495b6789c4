-- A seat at a board of shared words. What a board is and what a seat lists stands with each board.
use Rattle.std.specs.Prelude.{◌≡◌, ℕ, zero, suc, ◌+◌, ◌≤◌, ◌==◌, if◌then◌else◌, List, [], ◌∷◌, length, map, sum_by}
use Rattle.bip_defs.specs.Lists.{Among}
use Rattle.bip_defs.specs.Occurrences.{below}

-- its board, its number, how many seats the board has (which the seat 0 alone keeps), and what it
-- lists
pub record Seat (B L : Type 0) : Type 0 where
  pub board : B
  pub number : ℕ
  pub seats : ℕ
  pub listed : L

module _ {B L : Type 0} where
  abbrev pub lists_of : List (Seat B L) → List L
  lists_of ss = map (λ (s : Seat B L). s.listed) ss

  -- a seat with other lists
  abbrev pub with_listed : Seat B L → L → Seat B L
  with_listed s l = record { board = s.board; number = s.number; seats = s.seats; listed = l }

  -- the same seat, whatever it lists
  pub record IsSameSeat (s t : Seat B L) : Type 0 where
    pub board : t.board ≡ s.board
    pub number : t.number ≡ s.number
    pub seats : t.seats ≡ s.seats

  -- New seats, which list nothing yet.

  -- the seat 0 of a board with so many seats
  abbrev pub first_seat : B → ℕ → L → Seat B L
  first_seat b seats l = record { board = b; number = 0; seats = seats; listed = l }

  -- another seat, where this is nothing
  abbrev pub new_seat : L → B → ℕ → Seat B L
  new_seat nothing b number = record { board = b; number = number; seats = 0; listed = nothing }

  -- so many seats from this number on
  abbrev pub more_seats : L → B → ℕ → ℕ → List (Seat B L)
  more_seats nothing b number zero = []
  more_seats nothing b number (suc count) = new_seat nothing b number
      ∷ more_seats nothing b (1 + number) count

  -- so many seats, at least one
  abbrev pub new_seats : L → B → ℕ → List (Seat B L)
  new_seats nothing b zero = []
  new_seats nothing b (suc others) = first_seat b (1 + others) nothing
      ∷ more_seats nothing b 1 others

  -- All seats of a board.

  -- seats of this board, with the numbers from this one on
  abbrev pub AreNumbered : B → ℕ → List (Seat B L) → Type 0
  AreNumbered b number [] = Unit {0}
  AreNumbered b number (s ∷ ss) = (s.board ≡ b) × (s.number ≡ number)
      × AreNumbered b (1 + number) ss

  -- all seats of this board, in the order of their numbers
  abbrev pub AreAllSeats : B → List (Seat B L) → Type 0
  AreAllSeats b [] = ⊥
  AreAllSeats b (s ∷ others) = (s.board ≡ b) × (s.number ≡ 0) × (s.seats ≡ 1 + length others)
      × AreNumbered b 1 others

  -- 1 where the seat has this number, and else 0
  abbrev pub has_number : ℕ → Seat B L → ℕ
  has_number n s = if s.number == n then 1 else 0

  -- All seats of this board, in any order: of each number below their count there is one, and no
  -- other. The seat 0 knows the count
  pub record HoldsAllSeats (b : B) (ss : List (Seat B L)) : Type 0 where
    pub some : 1 ≤ length ss
    pub boards : (s : Seat B L) → Among s ss → s.board ≡ b
    pub numbers : (n : ℕ) → sum_by (has_number n) ss ≡ below n (length ss)
    pub counted : (s : Seat B L) → Among s ss → s.number ≡ 0 → s.seats ≡ length ss
