use Rattle.std.proofs.Common.{◌≡◌, ◌+◌, ◌<◌, arith, length, ◌-◌}
use Rattle.sp_pattern.specs.Columns.{matrix_of}
use Rattle.bip_defs.specs.Matrix.{cols}
use Rattle.bip_defs.proofs.Sets.{upto_mapped}
use Rattle.blocktri.proofs.RisingLemmas.{rising_column, rising_lists}
use Rattle.blocktri.proofs.rising_columns.RisingColumnsNeighbours.rows_of.Goals as goal

pub part-requires-clause-at : goal.part-requires-clause-at
part-requires-clause-at c =
    let wide : cols (matrix_of c.self.inside.rows c.self.inside.starts.items c.self.inside.ids.items) ≡ length c.self.inside.starts.items - 1 = upto_mapped _ _ in
    let lt = (rw (← c.self.view_is) at c.requires) in
    rw (c.as_slice.ensures.value, c.col.view_is) (omega (arith, wide, lt))

pub part-requires-clause-starts : goal.part-requires-clause-starts
part-requires-clause-starts c = rw (c.as_slice.ensures.value, c.as_slice-2.ensures.value) c.self.invariant.columns.starts_are

pub returns-clause-rows : goal.returns-clause-rows
returns-clause-rows c =
    let starts = c.self.inside.starts.items in
    let ids = c.self.inside.ids.items in
    let wide : cols (matrix_of c.self.inside.rows starts ids) ≡ length starts - 1 = upto_mapped _ _ in
    let lt = (rw (← c.self.view_is) at c.requires) in
    let within : c.args.col + 1 < length starts = omega (arith, wide, lt) in
    let law = c.columns_give_their_places.ensures in
    rw (c.part.ensures, c.as_slice.ensures.value, c.as_slice-2.ensures.value, c.col.view_is, ← c.self.view_is)
    (rising_lists c.self.inside.rows starts ids c.self.invariant (λ r d. law.entries c.self.inside.rows starts ids r d c.self.invariant.columns) c.args.col within)

pub returns-clause-column : goal.returns-clause-column
returns-clause-column c =
    let starts = c.self.inside.starts.items in
    let ids = c.self.inside.ids.items in
    let wide : cols (matrix_of c.self.inside.rows starts ids) ≡ length starts - 1 = upto_mapped _ _ in
    let lt = (rw (← c.self.view_is) at c.requires) in
    let within : c.args.col + 1 < length starts = omega (arith, wide, lt) in
    let law = c.columns_give_their_places.ensures in
    rw (c.part.ensures, c.as_slice.ensures.value, c.as_slice-2.ensures.value, c.col.view_is, ← c.self.view_is)
    (rising_column c.self.inside.rows starts ids c.self.invariant (λ r d. law.entries c.self.inside.rows starts ids r d c.self.invariant.columns) (law.places c.self.inside.rows starts ids c.self.invariant.columns) c.args.col within)
