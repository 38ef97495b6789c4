use Rattle.std.proofs.Common.{◌∙◌, arith}
use Rattle.std.proofs.lemmas.List.{map-id}
use Rattle.sp_pattern.proofs.Both.{lent_order, made_by_rows, order_itself}
use Rattle.sp_pattern.proofs.Shape.{orders_entries}
use Rattle.sp_pattern.proofs.Sides.{order_inside, order_table}
use Rattle.sp_pattern.proofs.pattern.Pattern.from_row_order.Goals as goal

pub transpose-requires-clause-table : goal.transpose-requires-clause-table
transpose-requires-clause-table c =
    let o = lent_order c.args.rows c.args.cols _ _ _ _ c.requires.order c.as_slice.ensures.value c.as_slice-2.ensures.value in
    (o.pairs, order_table _ _ _ _ o)

pub transpose-requires-clause-inside : goal.transpose-requires-clause-inside
transpose-requires-clause-inside c =
    let o = lent_order c.args.rows c.args.cols _ _ _ _ c.requires.order c.as_slice.ensures.value c.as_slice-2.ensures.value in
    λ k lt. order_inside _ _ _ _ o k (rw map-id lt)

pub invariant_of-result : goal.invariant_of-result
invariant_of-result c = (made_by_rows c.args.rows c.args.cols _ _ _ _ _ _ _ (order_itself _ _ _ _ c.requires.order) c.as_slice.ensures.value c.as_slice-2.ensures.value c.in_ok-col_starts.ensures (let f = c.ranges.rows in omega (arith, f)) (let f = c.ranges.cols in omega (arith, f)) c.requires.few).0

pub returns-clause-places : goal.returns-clause-places
returns-clause-places c = λ ps o. (made_by_rows c.args.rows c.args.cols ps _ _ _ _ _ _ o c.as_slice.ensures.value c.as_slice-2.ensures.value c.in_ok-col_starts.ensures (let f = c.ranges.rows in omega (arith, f)) (let f = c.ranges.cols in omega (arith, f)) c.requires.few).1

pub returns-clause-few : goal.returns-clause-few
returns-clause-few c =
    let made = made_by_rows c.args.rows c.args.cols _ _ _ _ _ _ _ (order_itself _ _ _ _ c.requires.order) c.as_slice.ensures.value c.as_slice-2.ensures.value c.in_ok-col_starts.ensures (let f = c.ranges.rows in omega (arith, f)) (let f = c.ranges.cols in omega (arith, f)) c.requires.few in
    orders_entries _ _ _ _ made.0 ∙ made.2
