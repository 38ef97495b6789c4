use Rattle.path_search.proofs.columns.unmatched_row.Goals as goal

pub col_of-requires : goal.col_of-requires
col_of-requires g c = c.requires.in_range _ c.row_at-row.ensures.among

pub bounds-marks-row-inside : goal.bounds-marks-row-inside
bounds-marks-row-inside g c = rw (c.row.view_is, c.requires.marks) (c.requires.in_range _ c.row_at-row.ensures.among)

pub returns-then-not-marks-row-clause-found : goal.returns-then-not-marks-row-clause-found
returns-then-not-marks-row-clause-found g c = (c.row_at-row.ensures.among, c.in-None.ensures.none)
