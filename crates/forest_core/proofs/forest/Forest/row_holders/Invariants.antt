use Rattle.std.proofs.Common.{ℕ, ◌≤◌, vec_capacity}
use Rattle.bip_defs.specs.Lists.{Among}
use Rattle.forest_core.proofs.TableLemmas.{IsMadeTo}
use Rattle.forest_core.proofs.forest.Forest.row_holders.Given as goal

abbrev pub invariant-loop-row : goal.invariant-loop-row
invariant-loop-row l = record {
  made : IsMadeTo (λ (k v : ℕ). Among (k, v) l.self.claims) l.row l.list.items;
  room : l.rows ≤ vec_capacity l.list;
}
