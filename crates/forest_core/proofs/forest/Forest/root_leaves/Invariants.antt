use Rattle.std.proofs.Common.{ℕ, ◌≤◌, vec_capacity}
use Rattle.bip_defs.specs.Lists.{Among}
use Rattle.forest_core.proofs.TableLemmas.{IsMadeTo}
use Rattle.forest_core.proofs.forest.Forest.root_leaves.Given as goal

abbrev pub invariant-loop-col : goal.invariant-loop-col
invariant-loop-col l = record {
  made : IsMadeTo (λ (k v : ℕ). Among (k, v) l.self.leaves) l.col l.list.items;
  room : l.cols ≤ vec_capacity l.list;
}
