-- What a phase never takes away.
use Rattle.std.specs.Prelude.{◌≡◌}
use Rattle.bip_defs.specs.Forest.{State}
use Rattle.bip_defs.specs.Matching.{Covers, IsMatching}

-- a forest over the same matrix, whose base matching has each row and column that was matched
pub record StaysMatched (s t : State) : Type 0 where
  pub matrix : t.matrix ≡ s.matrix
  pub matching : IsMatching s.matrix t.base
  pub covered : Covers s.base t.base
