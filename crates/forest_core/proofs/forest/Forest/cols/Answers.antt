use Rattle.forest_core.specs.Inside.{state_of}
use Rattle.forest_core.proofs.Trees.{has_trees}
use Rattle.forest_core.proofs.forest.Forest.cols.Goals as goal

pub returns-clause-trees : goal.returns-clause-trees
returns-clause-trees c = rw (← c.self.view_is) (has_trees (state_of c.self.inside) c.self.invariant.0.sound)
