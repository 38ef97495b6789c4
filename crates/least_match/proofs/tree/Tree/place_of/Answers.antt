use Rattle.least_match.proofs.TreeLemmas.{unreached}
use Rattle.least_match.proofs.tree.Tree.place_of.Goals as goal

pub returns-then-place-clause-none : goal.returns-then-place-clause-none
returns-then-place-clause-none c = unreached _ _ _ _ _ _ c.self.invariant.1 c.self.view_is c.col.view_is c.requires c.index-place.ensures c.if-place.true
