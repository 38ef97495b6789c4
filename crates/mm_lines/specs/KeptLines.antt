-- What contracts see of a line that comes byte by byte.
use Rattle.std.specs.Prelude.{ℕ, Bool, List}
use Rattle.mm_lines.specs.declared.line.Token.{Token}

-- the words that are kept, how many have begun, up to one more than are kept, and whether the last of them may go on
pub record KeptLine : Type 0 where
  pub tokens : List Token
  pub count : ℕ
  pub inside : Bool
