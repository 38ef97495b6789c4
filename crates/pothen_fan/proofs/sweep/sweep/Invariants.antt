use Rattle.std.proofs.Common.{take}
use Rattle.bip_defs.specs.Matching.{Covers}
use Rattle.path_search.specs.Search.{CanSearch}
use Rattle.pothen_fan.proofs.Phases.{Progress}
use Rattle.pothen_fan.proofs.sweep.sweep.Given as goal

abbrev pub invariant-loop-root : goal.invariant-loop-root
invariant-loop-root g l = record {
  ready : CanSearch (g.S.Side.matrix l.side) (g.F.Opposite.seen l.matching) l.search;
  progress : Progress (g.S.Side.matrix l.side) (g.F.Opposite.seen l.fn.matching) (g.F.Opposite.seen l.matching) l.search.marks (take l.root-index l.roots);
  covered : Covers (g.F.Opposite.seen l.fn.matching).pairs (g.F.Opposite.seen l.matching).pairs;
}
