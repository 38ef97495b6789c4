-- What is kept of a line.
use Rattle.std.specs.Prelude.{◌≡◌, ℕ, Bool, min, List, length, take, map}
use Rattle.std.specs.List.{slice_split}
use Rattle.mm_defs.specs.Words.{words, has_bytes, last_part, is_blank}
use Rattle.mm_lines.specs.declared.line.LineSoFar.TheInside.{Inside}
use Rattle.mm_lines.specs.KeptLines.{KeptLine}
use Rattle.mm_lines.specs.Tokens.{token_of}

abbrev pub kept_of : Inside → KeptLine
kept_of l = record { tokens = take l.count l.tokens; count = l.count; inside = l.inside }

-- five words have a place
abbrev pub HasPlaces : Inside → Type 0
HasPlaces l = length l.tokens ≡ 5

-- a byte that is not blank stands at the end of the line
abbrev pub in_word : List ℕ → Bool
in_word line = has_bytes (last_part (slice_split is_blank line))

-- the first five words, how many words there are, and whether the last of them may go on
pub record IsLine (kept : KeptLine) (line : List ℕ) : Type 0 where
  pub tokens_are : kept.tokens ≡ map token_of (take 5 (words line))
  pub count_is : kept.count ≡ min (length (words line)) 6
  pub inside_is : kept.inside ≡ in_word line
