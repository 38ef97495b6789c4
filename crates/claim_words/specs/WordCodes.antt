-- How a board's words are kept: the spare word first, then the words of the rows, then those of the
-- roots. A word is 0 where it is empty, and else 1 more than its value.
use Rattle.std.specs.Prelude.{ℕ, ◌+◌, List, Option, None, Some, map, ◌≤◌, ◌∷◌, ◌++◌, slice_index}
use Rattle.bip_defs.specs.WordValues.{value_of}
use Rattle.board_seats.specs.WordCodes.{firsts_in, rest_in}
use Rattle.claim_words.specs.Board.{Words}

-- the word that holds a value, which has this number
abbrev pub code_by : {X : Type 0} → (X → ℕ) → Option X → ℕ
code_by number None = 0
code_by number (Some x) = 1 + number x

-- the spare word, then the words that hold these values
abbrev pub words_for : List (Option ℕ) → List (Option ℕ) → List ℕ
words_for rows roots = (0 ∷ map (code_by (λ (x : ℕ). x)) rows) ++ map (code_by (λ (x : ℕ). x)) roots

-- the word that holds the greatest number of 32 bits
abbrev pub greatest_word : ℕ
greatest_word = 4294967296

-- each word is empty or holds a number of 32 bits
abbrev pub AllFit : List ℕ → Type 0
AllFit words = (i : ℕ) → slice_index words i ≤ greatest_word

abbrev pub rows_in : ℕ → List ℕ → List (Option ℕ)
rows_in = firsts_in

abbrev pub roots_in : ℕ → List ℕ → List (Option ℕ)
roots_in = rest_in value_of

-- what the words hold, of which so many are the rows'
abbrev pub decoded : ℕ → List ℕ → Words
decoded rows words = record { rows = rows_in rows words; roots = roots_in rows words }
