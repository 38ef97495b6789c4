-- The rule of a board's table: what is true of its words and of what all seats know, between any
-- two steps.
use Rattle.std.specs.Prelude.{◌≡◌, ℕ, ◌+◌, ◌<◌, ◌≤◌, List, [], Option, Some, length, map, slice_index}
use mathlib.Core.Option.{some}
use lib.ListN.{get_elem?}
use Rattle.atomic_table.specs.Table.{State}
use Rattle.bip_defs.specs.Lists.{Among}
use Rattle.bip_defs.specs.WordValues.{held}
use Rattle.board_seats.specs.View as views
use Rattle.board_seats.specs.View.{AreSeated, listed_or}
use Rattle.flip_words.specs.Accounts.{Settles}
use Rattle.flip_words.specs.WordCodes.{half, mates_in, takers_in, trees_in}
use Rattle.flip_words.specs.Listed.{Listed, all_listed, nothing}

-- the numbers of rows and columns of a board, and the mates and trees of its vertices when it was
-- opened
pub record Opened : Type 0 where
  pub rows : ℕ
  pub cols : ℕ
  pub mates : List (Option ℕ)
  pub trees : List (Option ℕ)

-- of a board that was opened with these words
abbrev pub opened_in : ℕ → ℕ → List ℕ → Opened
opened_in rows cols words = record {
  rows = rows;
  cols = cols;
  mates = mates_in cols words;
  trees = trees_in cols words;
}

abbrev pub Known : Type 0
Known = views.Known Opened Listed

-- what the view of a seat that was joined to another stands for
abbrev pub nobody : Known
nobody = record {
  opened = record { rows = 0; cols = 0; mates = []; trees = [] };
  number = 0;
  seats = 0;
  listed = nothing;
}

-- the vertex is of a tree that is listed as taken
abbrev pub IsOfTaken : List (Option ℕ) → Listed → ℕ → Type 0
IsOfTaken trees l vertex = (root : ℕ) × (number : ℕ) × (held trees vertex ≡ Some root)
    × Among (root, number) l.taken

-- each vertex that was set is of a tree that the same lists name as taken
abbrev pub SetsItsOwn : List (Option ℕ) → Listed → Type 0
SetsItsOwn trees l = (vertex mate : ℕ) → Among (vertex, mate) l.sets → IsOfTaken trees l vertex

-- The spare word stays empty, a tree's word fits, no vertex changes its tree, the seats are
-- numbered, the lists of all seats account for the takers of trees and for the mates, and no seat
-- sets a vertex of a tree that it did not take
pub record Kept {S : Type 0} (rows cols : ℕ) (opened : List ℕ)
    (s : State S (Option Known)) : Type 0 where
  pub spare : slice_index s.words 0 ≡ 0
  pub as_many : length s.words ≡ length opened
  pub fits : (root : ℕ) → root < cols → slice_index s.words (1 + root) ≤ half
  pub trees : trees_in cols s.words ≡ trees_in cols opened
  pub seats : AreSeated (opened_in rows cols opened) s.views
  pub settles : Settles cols (mates_in cols opened) (takers_in cols s.words) (mates_in cols s.words)
      (all_listed (map (listed_or nothing) s.views))
  pub owners : (id : ℕ) (v : Option Known) → get_elem? s.views id ≡ some v
      → SetsItsOwn (trees_in cols opened) (listed_or nothing v)

-- the first seat of a board that is opened with these words
abbrev pub opener : ℕ → ℕ → List ℕ → Option Known
opener rows cols opened = views.opener nothing (opened_in rows cols opened)
