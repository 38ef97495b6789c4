-- What each kind of step tells its seat.
use Rattle.std.specs.Prelude.{◌≡◌, ◌⊎◌, ℕ, ◌+◌, ◌-◌, ◌%◌, ◌≤◌, Option, Some}
use Rattle.atomic_table.specs.Table.{Me, Step}
use Rattle.bip_defs.specs.Lists.{Among}
use Rattle.bip_defs.specs.WordValues.{held, value_of}
use Rattle.flip_words.specs.WordCodes.{half, mate_of}
use Rattle.flip_words.specs.Listed.{looked, put, took}
use Rattle.flip_words.specs.Rule.{IsOfTaken, Known}
pub use Rattle.board_seats.specs.View.{counting_more, knowing}

-- A take: the number found fits, a taker that the seat knew is the one that was found, and the tree
-- or its taker is listed
pub record TellsTaken {S : Type 0} (k : Known) (root found : ℕ)
    (before after : Me S (Option Known)) : Type 0 where
  pub fits : found ≤ half
  pub same : (number : ℕ) → Among (root, number) k.listed.taken ⊎ Among (root, number) k.listed.seen
      → value_of found ≡ Some number
  pub after_is : after ≡ (knowing k (took k.listed root k.number (value_of found)), before.1)

-- A look: the mate that the seat set there is what was found, or the opened one where it set none
-- and took the tree, and the mate is listed
pub record TellsMate {S : Type 0} (k : Known) (vertex found : ℕ)
    (before after : Me S (Option Known)) : Type 0 where
  pub set : (mate : ℕ) → Among (vertex, mate) k.listed.sets → mate_of found ≡ Some mate
  pub alone : IsOfTaken k.opened.trees k.listed vertex
      → ((mate : ℕ) → ¬ Among (vertex, mate) k.listed.sets)
      → mate_of found ≡ held k.opened.mates vertex
  pub after_is : after ≡ (knowing k (looked k.listed vertex (mate_of found)), before.1)

module _ {S : Type 0} where
  -- an exchange of a tree's word
  abbrev pub TellsTake : Step S → Me S (Option Known) → ℕ → Me S (Option Known) → Type 0
  TellsTake st before found after = (k : Known) (root : ℕ) → before.0 ≡ Some k → st.word ≡ 1 + root
      → TellsTaken k root found before after

  -- a store of a vertex's word, whose lower half tells the mate
  abbrev pub TellsSet : Step S → Me S (Option Known) → ℕ → Me S (Option Known) → Type 0
  TellsSet st before stored after = (k : Known) (vertex : ℕ) → before.0 ≡ Some k
      → st.word ≡ 1 + k.opened.cols + vertex
      → after ≡ (knowing k (put k.listed vertex (st.first % half - 1)), before.1)

  -- a load of a vertex's word
  abbrev pub TellsLook : Step S → Me S (Option Known) → ℕ → Me S (Option Known) → Type 0
  TellsLook st before found after = (k : Known) (vertex : ℕ) → before.0 ≡ Some k
      → st.word ≡ 1 + k.opened.cols + vertex → TellsMate k vertex found before after
