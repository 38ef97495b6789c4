use Rattle.bip_defs.proofs.Sets.{among_at}
use Rattle.bip_graph.proofs.QueueTrees.{queue_col, queue_parent}
use Rattle.bip_graph.proofs.trace.QueueParents.parent.Goals as goal

pub row_of-requires : goal.row_of-requires
row_of-requires c = queue_col _ _ _ c.requires.kept.0 c.requires.kept.1

pub bounds-self-at : goal.bounds-self-at
bounds-self-at c = (queue_parent _ _ _ _ c.requires.kept.0 c.requires.kept.1 c.in-Some.ensures.found).0

pub returns-in-Some-clause-parent : goal.returns-in-Some-clause-parent
returns-in-Some-clause-parent c = (queue_parent _ _ _ _ c.requires.kept.0 c.requires.kept.1 c.in-Some.ensures.found).1

pub returns-in-Some-clause-kept : goal.returns-in-Some-clause-kept
returns-in-Some-clause-kept c = (c.requires.kept.0, among_at _ _ _ (queue_parent _ _ _ _ c.requires.kept.0 c.requires.kept.1 c.in-Some.ensures.found).0)
