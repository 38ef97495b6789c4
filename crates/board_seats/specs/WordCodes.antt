-- How the words of a board stand: a spare word first, then so many words of one kind, and then those
-- of another.
use Rattle.std.specs.Prelude.{ℕ, ◌+◌, List, Option, map, take, drop}
use Rattle.bip_defs.specs.WordValues.{value_of}

-- what the words of the first kind hold, each a value or none
abbrev pub firsts_in : ℕ → List ℕ → List (Option ℕ)
firsts_in many words = map value_of (take many (drop 1 words))

-- what the words of the other kind hold, of which each is read so
abbrev pub rest_in : (ℕ → Option ℕ) → ℕ → List ℕ → List (Option ℕ)
rest_in read many words = map read (drop (1 + many) words)
