-- Matchings that go on from some pairs.
use Rattle.std.specs.Prelude.{List}
use Rattle.bip_defs.specs.Lists.{Among}
use Rattle.bip_defs.specs.Matching.{IsMatching}
use Rattle.bip_defs.specs.Matrix.{Matrix, Place}

-- a matching of entries that has all of these pairs
pub record Extends (a : Matrix) (pairs m : List Place) : Type 0 where
  pub matching : IsMatching a m
  pub has : (p : Place) → Among p pairs → Among p m
