use Rattle.std.proofs.Common.{sym, subst}
use Rattle.bip_defs.specs.Blocks.{AreBlocksOf}
use Rattle.dm_fine.specs.Layout.{layout}
use Rattle.dm_fine.proofs.GatherLemmas.{blocks_by_number}
use Rattle.dm_fine.proofs.square.blocks_of.Goals as goal

pub returns-then-in_order : goal.returns-then-in_order
returns-then-in_order g c =
    let f = c.args.found.components in
    let k = c.in_ok-condensation.condensation in
    let made = rw c.as_slice.ensures.value at c.in_ok-condensation.ensures.made in
    subst (AreBlocksOf (g.C.ColumnLists.matrix c.args.columns)) (sym c.in_ok-append_all.ensures)
    (blocks_by_number (layout (g.C.ColumnLists.matrix c.args.columns) (g.C.ColumnLists.listed c.args.columns) k.rows k.cols) f.of_rows.items f.of_cols.items made (c.requires.found.in_order c.if-in_order.true))
