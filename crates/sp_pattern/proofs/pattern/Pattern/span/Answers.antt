use Rattle.std.proofs.Common.{◌+◌, arith, sym}
use Rattle.bip_defs.proofs.Pieces.{start_within}
use Rattle.sp_pattern.proofs.Shape.{col_fits, orders_columns, orders_entries}
use Rattle.sp_pattern.proofs.Weighed.{sum_before}
use Rattle.sp_pattern.proofs.pattern.Pattern.span.Goals as goal

pub bounds-starts-col-inside : goal.bounds-starts-col-inside
bounds-starts-col-inside c =
    let lt = col_fits c.self.inside.col_starts.items c.self.inside.col_rows.items c.self.inside.row_starts.items c.args.col (rw (← c.self.view_is) at c.requires) in
    rw (c.as_slice-starts.ensures.value, c.col.view_is) (omega (arith, lt))

pub bounds-starts-col-inside-2 : goal.bounds-starts-col-inside-2
bounds-starts-col-inside-2 c =
    let lt = col_fits c.self.inside.col_starts.items c.self.inside.col_rows.items c.self.inside.row_starts.items c.args.col (rw (← c.self.view_is) at c.requires) in
    rw (c.as_slice-starts.ensures.value, c.col.view_is) lt

pub returns-clause-from : goal.returns-clause-from
returns-clause-from c =
    let lt = col_fits c.self.inside.col_starts.items c.self.inside.col_rows.items c.self.inside.row_starts.items c.args.col (rw (← c.self.view_is) at c.requires) in
    rw (c.as_slice-starts.ensures.value, c.col.view_is, ← c.self.view_is) (sym (sum_before c.self.inside.col_starts.items c.self.inside.col_rows.items c.self.invariant.by_col c.args.col (omega (arith, lt))))

pub returns-clause-to : goal.returns-clause-to
returns-clause-to c =
    let lt = col_fits c.self.inside.col_starts.items c.self.inside.col_rows.items c.self.inside.row_starts.items c.args.col (rw (← c.self.view_is) at c.requires) in
    rw (c.as_slice-starts.ensures.value, c.col.view_is, ← c.self.view_is) (sym (sum_before c.self.inside.col_starts.items c.self.inside.col_rows.items c.self.invariant.by_col (c.args.col + 1) lt))

pub returns-clause-within : goal.returns-clause-within
returns-clause-within c =
    let lt = col_fits c.self.inside.col_starts.items c.self.inside.col_rows.items c.self.inside.row_starts.items c.args.col (rw (← c.self.view_is) at c.requires) in
    rw (c.as_slice-starts.ensures.value, c.col.view_is, ← c.self.view_is, orders_entries _ _ _ _ c.self.invariant)
    (c.self.invariant.by_col.rise c.args.col lt, start_within c.self.inside.col_starts.items c.self.inside.col_rows.items c.self.invariant.by_col (c.args.col + 1) lt)

pub returns-clause-rising : goal.returns-clause-rising
returns-clause-rising c = rw (← c.self.view_is) ((orders_columns _ _ _ _ c.self.invariant c.args.col).rising)
