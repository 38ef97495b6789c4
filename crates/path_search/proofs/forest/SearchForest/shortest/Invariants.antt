use Rattle.std.proofs.Common.{◌≡◌, ◌⊎◌, ◌<◌, ◌≤◌, length}
use Rattle.bip_defs.specs.Matching.{Covers}
use Rattle.bip_defs.specs.Matrix.{cols}
use Rattle.path_search.specs.Forests.{AreGrowing}
use Rattle.path_search.specs.Layers.{AreLayers}
use Rattle.path_search.proofs.forest.SearchForest.shortest.Given as goal

abbrev pub invariant-loop-root : goal.invariant-loop-root
invariant-loop-root g l = record {
  growing : AreGrowing (g.S.Side.matrix l.side) (g.F.Opposite.seen l.matching) l.self;
  roots : l.root-end ≤ length l.self.queue;
  layers : AreLayers (cols (g.S.Side.matrix l.side)) l.layers;
  covered : Covers (g.F.Opposite.seen l.fn.matching).pairs (g.F.Opposite.seen l.matching).pairs;
  grown : (g.F.Opposite.seen l.matching ≡ g.F.Opposite.seen l.fn.matching) ⊎ (length (g.F.Opposite.seen l.fn.matching).pairs < length (g.F.Opposite.seen l.matching).pairs);
}
