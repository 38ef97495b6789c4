use Rattle.path_search.proofs.columns.next_unmarked.Goals as goal

pub bounds-marks-row-inside : goal.bounds-marks-row-inside
bounds-marks-row-inside g c = rw c.row.view_is (c.requires.in_range _ c.row_at-row.ensures.among)
