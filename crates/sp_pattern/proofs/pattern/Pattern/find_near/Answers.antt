use Rattle.std.proofs.Common.{rules, ◌≡◌, arith, length}
use Rattle.bip_defs.specs.Matrix.{entry_count}
use Rattle.sp_pattern.proofs.Shape.{orders_entries}
use Rattle.sp_pattern.proofs.Weighed.{span_found, span_missed}
use Rattle.sp_pattern.proofs.pattern.Pattern.find_near.Goals as goal

pub offset_bounds-as_slice-from : goal.offset_bounds-as_slice-from
offset_bounds-as_slice-from c =
    let within = c.span-from.ensures.within in
    let count : entry_count c.args.self.now ≡ length c.as_slice.result.now = rw (c.as_slice.ensures.value, ← c.self.view_is) (orders_entries _ _ _ _ c.self.invariant) in
    let small = c.as_slice.type_inv in
    omega (arith, within.0, within.1, count, small.1)

pub slice_bounds-search_near-end : goal.slice_bounds-search_near-end
slice_bounds-search_near-end c =
    let within = c.span-from.ensures.within in
    let count : entry_count c.args.self.now ≡ length c.as_slice.result.now = rw (c.as_slice.ensures.value, ← c.self.view_is) (orders_entries _ _ _ _ c.self.invariant) in
    search rules

pub returns-in-Ok-clause-some : goal.returns-in-Ok-clause-some
returns-in-Ok-clause-some c =
    span_found _ _ _ _ c.args.self.now c.args.row c.args.col _ _ c.search_near.result c.in-Ok.k c.self.invariant c.self.view_is (let n = c.cols.ensures in let lt = c.if-cols-col.false in let is = c.col.view_is in omega (arith, n, lt, is)) c.span-from.ensures.from c.span-from.ensures.to (rw (← c.as_slice.ensures.value) c.search_near.ensures.position) c.in-Ok.is

pub returns-in-Err-clause-none : goal.returns-in-Err-clause-none
returns-in-Err-clause-none c =
    span_missed _ _ _ _ c.args.self.now c.args.row c.args.col _ _ c.search_near.result c.in-Err.field-0 c.self.invariant c.self.view_is c.span-from.ensures.from c.span-from.ensures.to (rw (← c.as_slice.ensures.value) c.search_near.ensures.position) c.in-Err.is
