use Rattle.std.proofs.Common.{◌≤◌}
use Rattle.tree_graft.specs.Counts.{IsCountOf}
use Rattle.tree_graft.proofs.CountLemmas.{IsFreedBefore}
use Rattle.tree_graft.proofs.counts.freed_count.Given as goal

abbrev pub invariant-loop-root : goal.invariant-loop-root
invariant-loop-root l = record {
  few : l.freed ≤ l.root-index;
  count : IsCountOf (IsFreedBefore l.forest l.root-index) l.freed;
}
