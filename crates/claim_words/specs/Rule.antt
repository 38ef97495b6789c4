-- The rule of a board's table: what is true of its words and of what all seats know, between any
-- two steps.
use Rattle.std.specs.Prelude.{◌≡◌, ℕ, List, [], Option, length, map, slice_index}
use Rattle.atomic_table.specs.Table.{State}
use Rattle.board_seats.specs.View as views
use Rattle.board_seats.specs.View.{AreSeated, listed_or}
use Rattle.claim_words.specs.Board.{Words}
use Rattle.claim_words.specs.WordCodes.{decoded, roots_in, rows_in, AllFit}
use Rattle.claim_words.specs.Listed.{Listed, all_listed, nothing}
use Rattle.claim_words.specs.Settles.{Settles}

abbrev pub Known : Type 0
Known = views.Known Words Listed

-- what the view of a seat that was joined to another stands for
abbrev pub nobody : Known
nobody = record { opened = record { rows = []; roots = [] }; number = 0; seats = 0; listed = nothing }

-- The spare word stays empty, every word is empty or fits 32 bits, the seats are numbered, and the
-- lists of all seats account for all words
pub record Kept {S : Type 0} (rows : ℕ) (opened : List ℕ)
    (s : State S (Option Known)) : Type 0 where
  pub spare : slice_index s.words 0 ≡ 0
  pub as_many : length s.words ≡ length opened
  pub fits : AllFit s.words
  pub seats : AreSeated (decoded rows opened) s.views
  pub settles : Settles (rows_in rows opened) (roots_in rows opened) (decoded rows s.words)
      (all_listed (map (listed_or nothing) s.views))

-- the first seat of a board that is opened with these words
abbrev pub opener : ℕ → List ℕ → Option Known
opener rows opened = views.opener nothing (decoded rows opened)
