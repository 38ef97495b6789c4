use Rattle.std.proofs.Common.{arith}
use Rattle.dm_fine.specs.Layout.{layout}
use Rattle.dm_fine.proofs.GatherLemmas.{condensed_by}
use Rattle.dm_fine.proofs.condensation.Condensation.of.Goals as goal

pub returns-clause-made : goal.returns-clause-made
returns-clause-made g c =
    let by_col = rw c.as_slice.ensures.value at c.in_ok-cols.ensures in
    condensed_by (layout (g.C.ColumnLists.matrix c.args.columns) (g.C.ColumnLists.listed c.args.columns) c.in_ok-rows.rows c.in_ok-cols.cols) c.args.of_rows.now c.args.of_cols.items c.args.count c.are_listed.ensures (omega arith) c.requires c.in_ok-rows.ensures by_col
