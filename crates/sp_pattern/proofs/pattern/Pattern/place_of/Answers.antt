use Rattle.std.proofs.Common.{rules, ◌≡◌, ◌+◌, ◌∙◌, arith, length}
use Rattle.bip_defs.specs.Matrix.{entry_count}
use Rattle.sp_pattern.proofs.Shape.{orders_entries}
use Rattle.sp_pattern.proofs.Weighed.{found_in_span, position_fits}
use Rattle.sp_pattern.proofs.pattern.Pattern.place_of.Goals as goal

pub offset_bounds-as_slice-from : goal.offset_bounds-as_slice-from
offset_bounds-as_slice-from c =
    let within = c.span-from.ensures.within in
    let count : entry_count c.args.self.now ≡ length c.as_slice.result.now = rw (c.as_slice.ensures.value, ← c.self.view_is) (orders_entries _ _ _ _ c.self.invariant) in
    let small = c.as_slice.type_inv in
    omega (arith, within.0, within.1, count, small.1)

pub slice_bounds-rows-end : goal.slice_bounds-rows-end
slice_bounds-rows-end c =
    let within = c.span-from.ensures.within in
    let count : entry_count c.args.self.now ≡ length c.as_slice.result.now = rw (c.as_slice.ensures.value, ← c.self.view_is) (orders_entries _ _ _ _ c.self.invariant) in
    search rules

pub returns-clause-place : goal.returns-clause-place
returns-clause-place c =
    let from = c.span-from.ensures.from in
    let to = c.span-from.ensures.to in
    let at = c.unwrap_or.ensures ∙ found_in_span _ _ _ _ c.args.self.now c.args.row c.args.col _ _ c.binary_search.result c.self.invariant c.self.view_is c.requires from to (rw (← c.as_slice.ensures.value) c.binary_search.ensures.position) in
    λ i. from i + at i

pub returns-clause-within : goal.returns-clause-within
returns-clause-within c =
    let from = c.span-from.ensures.from in
    let to = c.span-from.ensures.to in
    let at = c.unwrap_or.ensures ∙ found_in_span _ _ _ _ c.args.self.now c.args.row c.args.col _ _ c.binary_search.result c.self.invariant c.self.view_is c.requires from to (rw (← c.as_slice.ensures.value) c.binary_search.ensures.position) in
    let fits = position_fits c.args.self.now c.args.row c.args.col c.requires in
    omega (arith, from, at, fits)
