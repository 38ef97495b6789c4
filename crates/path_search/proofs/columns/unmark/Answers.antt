use Rattle.std.proofs.Common.{◌<◌, length}
use Rattle.std.proofs.lemmas.List.{take_more}
use Rattle.path_search.proofs.MarkLemmas.{unmarks_more}
use Rattle.bip_defs.proofs.Slices.{read_among, read_at}
use Rattle.path_search.proofs.columns.unmark.Goals as goal

pub bounds-marks-row-inside : goal.bounds-marks-row-inside
bounds-marks-row-inside c = rw (c.row.view_is, c.loop-row.invariant.size) (c.requires _ (read_among _ c.args.rows.now _ c.loop-row-test.true c.row-item.is))

pub loop-row-preserved : goal.loop-row-preserved
loop-row-preserved c =
    let rows = c.args.rows.now in
    let at = read_at _ 0 rows _ c.loop-row-test.true c.row-item.is in
    let lt : c.row-item.result < length c.loop-row.marks = rw c.loop-row.invariant.size (c.requires _ (read_among _ rows _ c.loop-row-test.true c.row-item.is)) in
    rw (take_more rows c.loop-row.row-index 0 c.loop-row-test.true, ← at, c.row.view_is) (unmarks_more _ _ _ c.row-item.result lt c.loop-row.invariant)
