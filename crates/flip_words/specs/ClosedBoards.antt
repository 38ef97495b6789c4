-- What closing a board tells.
use Rattle.std.specs.Prelude.{◌≡◌, ℕ, ◌<◌, List, [], ◌∷◌, ◌++◌, Option, Some, length}
use Rattle.bip_defs.specs.Lists.{Among, option_at}
use Rattle.bip_defs.specs.WordValues.{held}
use Rattle.bip_graph.specs.Mates.{Mated}
use Rattle.flip_words.specs.Accounts.{Settles}
use Rattle.flip_words.specs.Board.{Board, col_vertex}
use Rattle.flip_words.specs.Listed.{Listed, all_listed, followed_by, nothing}
use Rattle.flip_words.specs.Seat.{HasSeen, HasSet, HasSetTo, IsRightful, Seat, Took, lists_of}

-- what the seat 0 lists once it has taken in all others, the one with the highest number first
abbrev pub gathered : List Seat → Listed
gathered [] = nothing
gathered (s ∷ others) = followed_by (all_listed (lists_of others)) s.listed

-- The mates are those with which the board was opened, changed by what all these seats have set,
-- each vertex by one seat at most, once, which took its tree. There are takers of the trees, each
-- tree taken by one seat at most, once, and each taker that was seen is one of them
pub record SettlesAll (b : Board) (m : Mated) (ss : List Seat) : Type 0 where
  pub rows : length m.rows ≡ b.rows
  pub cols : length m.cols ≡ b.cols
  pub rightful : (s : Seat) → Among s ss → IsRightful s
  pub takers : List (Option ℕ)
  pub settles : Settles b.cols b.mates takers (m.rows ++ m.cols) (all_listed (lists_of ss))

-- Each tree was taken by one of the seats at most, and each vertex set by one at most; a taker that
-- was seen is the seat of that number
pub record HaveOneTakerEach (ss : List Seat) : Type 0 where
  pub taken : (s t : Seat) (root : ℕ) → Among s ss → Among t ss → Took s root → Took t root → s ≡ t
  pub set : (s t : Seat) (vertex : ℕ) → Among s ss → Among t ss → HasSet s vertex → HasSet t vertex
      → s ≡ t
  pub seen : (s : Seat) (root number : ℕ) → Among s ss → HasSeen s root number
      → (t : Seat) × Among t ss × Took t root × (t.number ≡ number)

-- A row or a column that one of the seats set has the mate to which it was set, and any other has
-- the mate with which the board was opened
pub record AreMatesAfter (b : Board) (ss : List Seat) (m : Mated) : Type 0 where
  pub row_set : (s : Seat) (r c : ℕ) → Among s ss → r < b.rows → HasSetTo s r c
      → option_at m.rows r ≡ Some c
  pub col_set : (s : Seat) (r c : ℕ) → Among s ss → HasSetTo s (col_vertex b c) r
      → option_at m.cols c ≡ Some r
  pub row_unset : (r : ℕ) → r < b.rows → ((s : Seat) → Among s ss → ¬ HasSet s r)
      → option_at m.rows r ≡ held b.mates r
  pub col_unset : (c : ℕ) → ((s : Seat) → Among s ss → ¬ HasSet s (col_vertex b c))
      → option_at m.cols c ≡ held b.mates (col_vertex b c)
