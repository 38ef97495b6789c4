use Rattle.forest_core.proofs.Trees.{has_trees}
use Rattle.forest_core.proofs.laws.sound_forests_have_trees.Goals as goal

pub returns : goal.returns
returns c = has_trees
