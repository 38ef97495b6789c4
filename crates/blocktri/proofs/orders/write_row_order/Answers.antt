use Rattle.std.proofs.Common.{◌∙◌, arith}
use Rattle.bip_defs.specs.Blocks.{all_rows}
use Rattle.blocktri.proofs.DiagonalOrderLemmas.{three_same}
use Rattle.blocktri.proofs.orders.write_row_order.Goals as goal

pub write_lists-requires : goal.write_lists-requires
write_lists-requires c =
    let long = c.lengths_add_up.ensures.rows in
    let room = c.requires.room in
    rw (c.as_slice-first.ensures.value, c.all_rows.ensures, c.as_slice-last.ensures.value) (omega (arith, long, room))

pub returns : goal.returns
returns c = c.write_lists.ensures ∙ three_same c.as_slice-first.result.now c.all_rows.result.now c.as_slice-last.result.now c.args.found.now.parts.hr.items (all_rows c.args.found.now.blocks) c.args.found.now.parts.vr.items c.as_slice-first.ensures.value c.all_rows.ensures c.as_slice-last.ensures.value
