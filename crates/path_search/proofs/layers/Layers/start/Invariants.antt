use Rattle.bip_defs.specs.Matrix.{cols}
use Rattle.path_search.specs.Layers.{AreLayers}
use Rattle.path_search.proofs.layers.Layers.start.Given as goal

abbrev pub invariant-loop-number : goal.invariant-loop-number
invariant-loop-number g l = AreLayers (cols (g.S.Side.matrix l.side)) l.self
