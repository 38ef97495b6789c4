-- Lines, words and skipped lines.
use Rattle.std.specs.Prelude.{ℕ, suc, Bool, true, false, if◌then◌else◌, ◌==◌, ◌||◌, not, List, [], ◌∷◌, slice_index, slice_index_or, filter}
use Rattle.std.specs.List.{slice_split}

abbrev pub Word : Type 0
Word = List ℕ

abbrev pub is_lf : ℕ → Bool
is_lf b = b == 10

-- space, tab and CR
abbrev pub is_blank : ℕ → Bool
is_blank b = (b == 32) || (b == 9) || (b == 13)

abbrev pub has_bytes : List ℕ → Bool
has_bytes [] = false
has_bytes (b ∷ bs) = true

-- the longest runs of bytes that are not blank
unfoldable pub words : List ℕ → List Word
words line = filter has_bytes (slice_split is_blank line)

-- the lines that an LF ends: all parts but what stands behind the last LF
abbrev pub but_last : List (List ℕ) → List (List ℕ)
but_last [] = []
but_last (part ∷ []) = []
but_last (part ∷ next ∷ parts) = part ∷ but_last (next ∷ parts)

-- what stands behind the last LF, where that is not empty, is a line too once the input has ended
abbrev pub but_empty_last : List (List ℕ) → List (List ℕ)
but_empty_last [] = []
but_empty_last (part ∷ []) = if has_bytes part then part ∷ [] else []
but_empty_last (part ∷ next ∷ parts) = part ∷ but_empty_last (next ∷ parts)

-- the lines of the bytes that have ended; the input itself ended with these bytes or it did not
unfoldable pub lines : Bool → List ℕ → List (List ℕ)
lines true bytes = but_empty_last (slice_split is_lf bytes)
lines false bytes = but_last (slice_split is_lf bytes)

-- what stands behind the last separator
abbrev pub last_part : List (List ℕ) → List ℕ
last_part [] = []
last_part (part ∷ []) = part
last_part (part ∷ next ∷ parts) = last_part (next ∷ parts)

-- what has come of a line that has not ended
unfoldable pub open_line : List ℕ → List ℕ
open_line bytes = last_part (slice_split is_lf bytes)

-- no words, or a comment
abbrev pub is_skipped : List Word → Bool
is_skipped [] = true
is_skipped (w ∷ ws) = slice_index w 0 == 37

-- the word at this place, counted from 0
abbrev pub word : List Word → ℕ → Word
word ws k = slice_index_or ws k []

-- a line by its number and its words
pub record Line : Type 0 where
  pub number : ℕ
  pub words : List Word

-- the lines, numbered from n
abbrev pub numbered : ℕ → List (List ℕ) → List Line
numbered n [] = []
numbered n (l ∷ ls) = record { number = n; words = words l } ∷ numbered (suc n) ls

-- the lines that are not skipped
abbrev pub kept : List Line → List Line
kept ls = filter (λ (l : Line). not (is_skipped l.words)) ls
