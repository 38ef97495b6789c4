use Rattle.std.proofs.Common.{arith}
use Rattle.forest_core.proofs.PathLemmas.{leaf_depth, leaf_free, leaf_held, path_pairs, trace_col, trace_room, trace_trees}
use Rattle.forest_core.proofs.paths.trace.Goals as goal

pub holder_at-requires-clause-within : goal.holder_at-requires-clause-within
holder_at-requires-clause-within c = let (s, xs, x, t) = c.requires.forest in (leaf_held s xs x _ _ _ t).0

pub holder_at-requires-clause-some : goal.holder_at-requires-clause-some
holder_at-requires-clause-some c = let (s, xs, x, t) = c.requires.forest in let held = leaf_held s xs x _ _ _ t in (held.1, held.2)

pub trace_back-requires-clause-trees : goal.trace_back-requires-clause-trees
trace_back-requires-clause-trees c = let (s, xs, x, t) = c.requires.forest in trace_trees s xs x _ _ _ t

pub trace_back-requires-clause-kept : goal.trace_back-requires-clause-kept
trace_back-requires-clause-kept c = let (s, xs, x, t) = c.requires.forest in trace_col s xs x _ _ _ _ _ t c.holder_at.ensures

pub trace_back-requires-clause-depth : goal.trace_back-requires-clause-depth
trace_back-requires-clause-depth c = let (s, xs, x, t) = c.requires.forest in leaf_depth s xs x _ _ _ _ t c.holder_at.ensures

pub trace_back-requires-clause-leaf : goal.trace_back-requires-clause-leaf
trace_back-requires-clause-leaf c = let (s, xs, x, t) = c.requires.forest in leaf_free s xs x _ _ _ t

pub trace_back-requires-clause-room : goal.trace_back-requires-clause-room
trace_back-requires-clause-room c = let (s, xs, x, t) = c.requires.forest in omega (arith, trace_room s xs x _ _ _ t, c.requires.room)

pub returns-clause-pairs : goal.returns-clause-pairs
returns-clause-pairs c = λ s xs x t. path_pairs s xs x _ _ _ _ _ t c.holder_at.ensures c.trace_back.ensures.path c.trace_back.ensures.leaf c.trace_back.ensures.pairs
