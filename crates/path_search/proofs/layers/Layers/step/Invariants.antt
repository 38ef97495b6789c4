use Rattle.std.proofs.Common.{◌≡◌}
use Rattle.bip_defs.specs.Matrix.{cols}
use Rattle.path_search.specs.Layers.{AreLayers}
use Rattle.path_search.proofs.layers.Layers.step.Given as goal

abbrev pub invariant-loop-at : goal.invariant-loop-at
invariant-loop-at g l = record {
  layers : AreLayers (cols (g.S.Side.matrix l.side)) l.self;
  layer : l.self.layer ≡ l.fn.self.next;
}
