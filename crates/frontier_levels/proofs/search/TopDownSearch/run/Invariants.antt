use Rattle.std.proofs.Common.{ℕ, take}
use Rattle.bip_defs.specs.Lists.{Among}
use Rattle.frontier_levels.specs.TopDownSearch.{Advances, HasGatheredIn, IsCoveredColumn}
use Rattle.frontier_levels.proofs.search.TopDownSearch.run.Given as goal

abbrev pub invariant-loop-col : goal.invariant-loop-col
invariant-loop-col l = record {
  progress : Advances l.self l.fn.worker l.worker;
  gathered : HasGatheredIn l.self l.worker l.candidates.items;
  columns : (c : ℕ) → Among c (take l.col-index l.col-items) → IsCoveredColumn l.self.forest.now l.worker l.candidates.items c;
}
