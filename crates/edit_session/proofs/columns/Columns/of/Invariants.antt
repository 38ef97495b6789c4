use Rattle.std.proofs.Common.{◌≡◌, ◌<◌, ℕ, take}
use Rattle.bip_defs.specs.Lists.{Lists}
use Rattle.bip_defs.specs.Matrix.{IsEntry, Matrix, column}
use Rattle.edit_session.proofs.columns.Columns.of.Given as goal

abbrev pub invariant-loop-col : goal.invariant-loop-col
invariant-loop-col g l = record {
  lists : l.lists.lists ≡ take l.col (Matrix.columns (g.N.Neighbours.matrix l.neighbours));
  columns : (c : ℕ) → c < l.col → Lists (λ r. IsEntry (g.N.Neighbours.matrix l.neighbours) r c) (column (g.N.Neighbours.matrix l.neighbours) c);
}
