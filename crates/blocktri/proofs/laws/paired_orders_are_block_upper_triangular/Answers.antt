use Rattle.std.proofs.Common.{get_or, inr}
use Rattle.bip_defs.proofs.Sets.{col_among, row_among}
use Rattle.blocktri.proofs.PairedLaws.{paired_upper}
use Rattle.blocktri.proofs.laws.paired_orders_are_block_upper_triangular.Goals as goal

pub returns-clause-filled : goal.returns-clause-filled
returns-clause-filled c = paired_upper

pub returns-clause-entries : goal.returns-clause-entries
returns-clause-entries c = λ a m count old new t all i j b d here there entry.
    let full = t.are_blocks.full in
    paired_upper a m count old new t all i j b d here there ((c.filled_entries.ensures.entries a m.pairs (λ r e h. (full.rows.sound r (row_among r e m.pairs h), full.columns.sound e (col_among r e m.pairs h))) (get_or new.row_order i 0) (get_or new.column_order j 0)).1 (inr entry))
