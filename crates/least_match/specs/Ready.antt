-- What is kept between two columns that are settled.
use Rattle.std.specs.Prelude.{◌≡◌, ℕ, ◌<◌, List}
use Rattle.bip_defs.specs.Lists.{Among}
use Rattle.bip_defs.specs.Matching.{cols_of}
use Rattle.bip_defs.specs.Matrix.{IsEntry, Matrix, Place, cols}
use Rattle.bip_graph.specs.Matching.{IsMaximumOf, Pairing}
use Rattle.least_match.specs.Classes.{AreClasses}
use Rattle.least_match.specs.Outcomes.{AreParted}
use Rattle.least_match.specs.Trees.{HaveCols}
use Rattle.least_match.specs.declared.exchanges.Exchanges.{Exchanges}

-- the columns below j are settled in m
pub record IsReady (a : Matrix) (m : List Place) (j : ℕ) (x : Exchanges) : Type 0 where
  pub pattern : x.pattern.now ≡ a
  pub parts : AreParted a x.parts.items
  pub classes : AreClasses a m j x.classes.numbers.items x.classes.count
  pub trees : HaveCols (cols a) x.trees

-- an exchange is looked for that gives the row to the column, which has another one; the row is that of a
-- column behind it
pub record CanExchange (a : Matrix) (m : Pairing) (row col other : ℕ) (x : Exchanges) : Type 0 where
  pub maximum : IsMaximumOf a m
  pub ready : IsReady a m.pairs col x
  pub entry : IsEntry a row col
  pub mate : Among (row, other) m.pairs
  pub behind : col < other
  pub matched : Among col (cols_of m.pairs)
