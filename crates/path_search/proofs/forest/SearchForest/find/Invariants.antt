use Rattle.std.proofs.Common.{◌<◌, ◌+◌, ◌-◌, ◌*◌, length}
use Rattle.bip_defs.specs.Lists.{Among}
use Rattle.bip_defs.specs.Matching.{cols_of}
use Rattle.bip_defs.specs.Matrix.{cols}
use Rattle.path_search.specs.Forests.{Extends, IsForest, reached_at}
use Rattle.path_search.specs.Layers.{AreLayers}
use Rattle.path_search.proofs.forest.SearchForest.find.Given as goal

abbrev pub invariant-loop-row : goal.invariant-loop-row
invariant-loop-row g l = record {
  forest : IsForest (g.S.Side.matrix l.side) (g.F.Opposite.seen l.matching).pairs l.self;
  extends : Extends l.fn.self l.self;
  layers : AreLayers (cols (g.S.Side.matrix l.side)) l.layers;
  within : l.place < length l.self.queue;
  unmatched : ¬ Among (reached_at l.self.queue l.place).root (cols_of (g.F.Opposite.seen l.matching).pairs);
}

abbrev pub decreases-loop-row : goal.decreases-loop-row
decreases-loop-row g l = (cols (g.S.Side.matrix l.side) - length l.self.queue) * (cols (g.S.Side.matrix l.side) + 1) + l.place
