use Rattle.std.proofs.Common.{codes}
use Rattle.bip_graph.specs.Answers.{orders_of}
use Rattle.bip_graph.specs.Decompositions.{decomposition_of}
use Rattle.bip_graph.specs.Texts.{order_lines}
use Rattle.btf_text.proofs.Orders.{same_order}
use Rattle.btf_text.proofs.Parts.{asked_for}
use Rattle.btf_text.proofs.Puts.{puts_as, puts_none, puts_then}
use Rattle.btf_text.proofs.report.put_orders.Goals as goal

pub returns-then-not-order : goal.returns-then-not-order
returns-then-not-order g c = puts_as (asked_for order_lines (orders_of (decomposition_of c.args.dec.now)) c.if-not-order.true) (puts_none _)

pub returns : goal.returns
returns g c =
    puts_as (asked_for order_lines (orders_of (decomposition_of c.args.dec.now)) c.if-not-order.false)
    (puts_then (puts_as (same_order (codes "row_order") c.as_slice.ensures.value c.all_rows.ensures c.as_slice-2.ensures.value) c.put_order.ensures)
    (puts_as (same_order (codes "column_order") c.as_slice-3.ensures.value c.all_cols.ensures c.as_slice-4.ensures.value) c.put_order-2.ensures))
