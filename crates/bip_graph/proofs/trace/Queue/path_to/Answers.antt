use Rattle.bip_defs.proofs.Sets.{among_at}
use Rattle.bip_graph.proofs.QueueTrees.{queue_depth, queue_traced, queue_trees}
use Rattle.bip_graph.proofs.trace.Queue.path_to.Goals as goal

pub trace_back-requires-clause-trees : goal.trace_back-requires-clause-trees
trace_back-requires-clause-trees c = queue_trees _ _ c.is_matching.ensures.rows_differ c.is_matching.ensures.cols_rise c.requires.queue

pub trace_back-requires-clause-kept : goal.trace_back-requires-clause-kept
trace_back-requires-clause-kept c = (c.requires.queue, among_at _ _ _ c.requires.place)

pub trace_back-requires-clause-depth : goal.trace_back-requires-clause-depth
trace_back-requires-clause-depth c = queue_depth _ _ _ c.requires.queue c.requires.place

pub returns-clause-pairs : goal.returns-clause-pairs
returns-clause-pairs c = λ p h. queue_traced _ _ _ _ p (c.trace_back.ensures.pairs p h)
