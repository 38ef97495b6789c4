-- What lists tell of the words of a board.
use Rattle.std.specs.Prelude.{◌≡◌, ◌⊎◌, ℕ, List, Option, None, Some}
use Rattle.bip_defs.specs.Lists.{Among}
use Rattle.bip_defs.specs.WordValues.{held}
use Rattle.claim_words.specs.Accounts.{Accounts}
use Rattle.claim_words.specs.Board.{Board, Words}
use Rattle.claim_words.specs.Listed.{Listed, Sight, all_listed, root_word, row_word}
use Rattle.claim_words.specs.Seat.{KnowsRoot, KnowsRow, Seat, lists_of}

-- a value that was seen is what the word holds
abbrev pub Stands : Words → Sight → Type 0
Stands words (row_word row None) = Unit {0}
Stands words (row_word row (Some col)) = held words.rows row ≡ Some col
Stands words (root_word root None) = Unit {0}
Stands words (root_word root (Some leaf)) = held words.roots root ≡ Some leaf

-- The lists account for all words of a board that was opened with these values, and each value that
-- was seen stands
pub record Settles (rows roots : List (Option ℕ)) (words : Words) (l : Listed) : Type 0 where
  pub claims : Accounts rows words.rows l.claims
  pub wins : Accounts roots words.roots l.wins
  pub seen : (sight : Sight) → Among sight l.seen → Stands words sight

-- so do the lists of all these seats together
abbrev pub SettlesAll : Board → Words → List Seat → Type 0
SettlesAll b words ss = Settles b.rows b.roots words (all_listed (lists_of ss))

-- what one of these seats of the board knows of a word is what the word holds
pub record KnowWords (b : Board) (words : Words) (ss : List Seat) : Type 0 where
  pub rows : (s : Seat) (row col : ℕ) → Among s ss → s.board ≡ b → KnowsRow s row col
      → held words.rows row ≡ Some col
  pub roots : (s : Seat) (root leaf : ℕ) → Among s ss → s.board ≡ b → KnowsRoot s root leaf
      → held words.roots root ≡ Some leaf

-- a value that was seen was there when the words were opened, or is listed
pub record SawListed (rows roots : List (Option ℕ)) (l : Listed) : Type 0 where
  pub seen_col : (row col : ℕ) → Among (row_word row (Some col)) l.seen
      → (held rows row ≡ Some col) ⊎ Among (row, col) l.claims
  pub seen_leaf : (root leaf : ℕ) → Among (root_word root (Some leaf)) l.seen
      → (held roots root ≡ Some leaf) ⊎ Among (root, leaf) l.wins
