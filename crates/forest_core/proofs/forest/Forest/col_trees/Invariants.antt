use Rattle.std.proofs.Common.{ℕ, ◌≤◌, vec_capacity}
use Rattle.bip_defs.specs.Forest.{RootOf}
use Rattle.forest_core.proofs.TableLemmas.{IsMadeTo}
use Rattle.forest_core.proofs.forest.Forest.col_trees.Given as goal

abbrev pub invariant-loop-col : goal.invariant-loop-col
invariant-loop-col l = record {
  made : IsMadeTo (λ (k v : ℕ). RootOf l.self.base l.self.claims v k) l.col l.list.items;
  room : l.cols ≤ vec_capacity l.list;
}
