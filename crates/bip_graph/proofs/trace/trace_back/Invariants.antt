use Rattle.std.proofs.Common.{◌-◌, ◌<◌, ◌≤◌, length, suc, vec_capacity}
use Rattle.bip_graph.proofs.TraceLemmas.{IsTracing}
use Rattle.bip_graph.proofs.trace.trace_back.Given as goal

abbrev pub invariant-loop-row : goal.invariant-loop-row
invariant-loop-row g l = record {
  tracing : IsTracing (g.T.Parents.pairs l.trees) (g.T.Parents.reached l.trees) l.fn.leaf (g.T.Parents.column l.fn.from) (g.T.Parents.column l.at) l.path.items;
  kept : g.T.Parents.kept l.trees l.at;
  room : length (g.T.Parents.pairs l.trees) < vec_capacity l.path;
  capacity : vec_capacity l.fn.path ≤ vec_capacity l.path;
}

abbrev pub decreases-loop-row : goal.decreases-loop-row
decreases-loop-row g l = suc (length (g.T.Parents.pairs l.trees)) - length l.path.items
