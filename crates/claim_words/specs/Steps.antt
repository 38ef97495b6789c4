-- What each kind of step tells its seat.
use Rattle.std.specs.Prelude.{◌≡◌, ◌⊎◌, ℕ, ◌+◌, ◌≤◌, Option, Some, length}
use Rattle.bip_defs.specs.Lists.{Among}
use Rattle.bip_defs.specs.WordValues.{held, value_of}
use Rattle.atomic_table.specs.Table.{Me, Step}
use Rattle.claim_words.specs.Board.{Words}
use Rattle.claim_words.specs.Listed.{Listed, claimed, looked, root_word, row_word, won}
use Rattle.claim_words.specs.Rule.{Known}
use Rattle.claim_words.specs.Settles.{Settles}
use Rattle.claim_words.specs.WordCodes.{greatest_word}
pub use Rattle.board_seats.specs.View.{counting_more, knowing}

-- the seat knew of a value of the row's word, or of the root's

abbrev pub KnewRow : Known → ℕ → ℕ → Type 0
KnewRow k row col = (held k.opened.rows row ≡ Some col)
    ⊎ (Among (row, col) k.listed.claims ⊎ Among (row_word row (Some col)) k.listed.seen)

abbrev pub KnewRoot : Known → ℕ → ℕ → Type 0
KnewRoot k root leaf = (held k.opened.roots root ≡ Some leaf)
    ⊎ (Among (root, leaf) k.listed.wins ⊎ Among (root_word root (Some leaf)) k.listed.seen)

-- What a step on a word tells: the number found fits, a value that the seat knew is what was found,
-- and the seat has these lists now
pub record Tells {S : Type 0} (k : Known) (Knew : ℕ → Type 0) (now : Listed) (found : ℕ)
    (before after : Me S (Option Known)) : Type 0 where
  pub fits : found ≤ greatest_word
  pub same : (x : ℕ) → Knew x → value_of found ≡ Some x
  pub after_is : after ≡ (knowing k now, before.1)

module _ {S : Type 0} where
  -- an exchange of a row's word
  abbrev pub TellsClaim : Step S → Me S (Option Known) → ℕ → Me S (Option Known) → Type 0
  TellsClaim st before found after = (k : Known) (row col : ℕ) → before.0 ≡ Some k
      → st.word ≡ 1 + row → st.second ≡ 1 + col
      → Tells k (KnewRow k row) (claimed k.listed row col (value_of found)) found before after

  -- an exchange of a root's word
  abbrev pub TellsWin : Step S → Me S (Option Known) → ℕ → Me S (Option Known) → Type 0
  TellsWin st before found after = (k : Known) (root leaf : ℕ) → before.0 ≡ Some k
      → st.word ≡ 1 + length k.opened.rows + root → st.second ≡ 1 + leaf
      → Tells k (KnewRoot k root) (won k.listed root leaf (value_of found)) found before after

  -- a load of a row's word
  abbrev pub TellsRow : Step S → Me S (Option Known) → ℕ → Me S (Option Known) → Type 0
  TellsRow st before found after = (k : Known) (row : ℕ) → before.0 ≡ Some k → st.word ≡ 1 + row
      → Tells k (KnewRow k row) (looked k.listed (row_word row (value_of found))) found before after

  -- a load of a root's word
  abbrev pub TellsRoot : Step S → Me S (Option Known) → ℕ → Me S (Option Known) → Type 0
  TellsRoot st before found after = (k : Known) (root : ℕ) → before.0 ≡ Some k
      → st.word ≡ 1 + length k.opened.rows + root
      → Tells k (KnewRoot k root) (looked k.listed (root_word root (value_of found)))
      found before after

  -- a load of the spare word by the seat 0 while no other is left: its lists account for all words
  abbrev pub TellsAll : Step S → Me S (Option Known) → ℕ → Me S (Option Known) → Type 0
  TellsAll st before found after = (after ≡ before)
      × ((k : Known) → before.0 ≡ Some k → (words : Words) × Settles k.opened.rows k.opened.roots words k.listed)
