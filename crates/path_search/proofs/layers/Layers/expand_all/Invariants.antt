use Rattle.std.proofs.Common.{◌≡◌}
use Rattle.bip_defs.specs.Matrix.{cols}
use Rattle.path_search.specs.Layers.{AreLayers}
use Rattle.path_search.proofs.layers.Layers.expand_all.Given as goal

abbrev pub invariant-loop-far : goal.invariant-loop-far
invariant-loop-far g l = record {
  layers : AreLayers (cols (g.S.Side.matrix l.side)) l.self;
  layer : l.self.layer ≡ l.fn.self.layer;
}
