use Rattle.std.proofs.Common.{map}
use Rattle.outer_components.specs.Labels.{AreLabels}
use Rattle.outer_components.proofs.labels.label_all.Given as goal

abbrev pub invariant-loop-at : goal.invariant-loop-at
invariant-loop-at g l = AreLabels (g.L.ColumnLists.matrix l.lists) (map g.N.Id.number l.columns) l.at l.contacts l.row_labels l.col_labels
