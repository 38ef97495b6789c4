-- What numbered words hold, each of them a number or nothing.
use Rattle.std.specs.Prelude.{ℕ, zero, suc, List, Option, None, Some}
use Rattle.bip_defs.specs.Lists.{option_at}

-- what the word of a number holds; none past the last word
abbrev pub held : List (Option ℕ) → ℕ → Option ℕ
held words i = option_at words i

-- what a word holds that is kept as a number: 0 where it is empty, and else 1 more than its value
abbrev pub value_of : ℕ → Option ℕ
value_of zero = None
value_of (suc x) = Some x

-- 1 where a word that was opened empty holds a value, and else 0
abbrev pub is_added : Option ℕ → Option ℕ → ℕ
is_added None None = 0
is_added None (Some x) = 1
is_added (Some y) now = 0
