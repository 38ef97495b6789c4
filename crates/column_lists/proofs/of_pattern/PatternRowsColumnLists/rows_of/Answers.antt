use Rattle.std.proofs.Common.{◌<◌, subst}
use Rattle.bip_defs.proofs.Transposed.{transpose_cols}
use Rattle.column_lists.proofs.of_pattern.PatternRowsColumnLists.rows_of.Goals as goal

pub cols_of-requires : goal.cols_of-requires
cols_of-requires c = rw (c.col.view_is) (subst (λ n. c.args.col < n) (transpose_cols c.args.self.pattern.now) c.requires)
