use Rattle.forest_core.specs.Growing.{GrowsOn}
use Rattle.tree_graft.specs.PhaseSearch.{IsAtLevel, levels_left}
use Rattle.tree_graft.proofs.levels.PhaseSearch.run.Given as goal

abbrev pub invariant-loop-self : goal.invariant-loop-self
invariant-loop-self g l = record {
  grown : GrowsOn l.fn.forest l.forest;
  level : IsAtLevel l.self l.forest;
}

abbrev pub decreases-loop-self : goal.decreases-loop-self
decreases-loop-self g l = levels_left l.forest l.self.frontier.items
