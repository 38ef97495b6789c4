-- What phases of shortest paths begin with.
use Rattle.bip_defs.specs.Matrix.{Matrix, cols}
use Rattle.bip_graph.specs.Matching.{Pairing}
use Rattle.path_search.specs.Forests.{CanGrow}
use Rattle.path_search.specs.Layers.{AreLayers}
use Rattle.breadth_first_match.specs.declared.shortest.ShortestPhases.{ShortestPhases}

-- a matching of the matrix, and searches and layers of its sizes
pub record AreLaid (a : Matrix) (m : Pairing) (p : ShortestPhases) : Type 0 where
  pub forest : CanGrow a m p.forest
  pub layers : AreLayers (cols a) p.layers
