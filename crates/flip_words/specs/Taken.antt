-- What the answer of a take tells of the tree's word.
use Rattle.std.specs.Prelude.{ℕ, Option, None, Some}
use Rattle.flip_words.specs.declared.taken.Taken.{Taken}
use Rattle.flip_words.specs.declared.taken.Taken.TheVariants.{Mine, Held}

-- the seat that had taken the tree before
abbrev pub taker_before : Taken → Option ℕ
taker_before Mine = None
taker_before (Held seat) = Some seat
