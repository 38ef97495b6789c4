use Rattle.std.proofs.Common.{◌<◌, subst}
use Rattle.bip_defs.specs.Matching.{cols_of}
use Rattle.bip_defs.proofs.Sets.{rising_distinct}
use Rattle.filled_columns.proofs.FilledMatrices.{filled_listed}
use Rattle.filled_columns.proofs.fill.FilledColumnsColumnLists.are_listed.Goals as goal

pub returns : goal.returns
returns g c =
    let pairs = c.args.self.matching.now.pairs in
    let is = c.is_matching.ensures in
    filled_listed (g.C.ColumnLists.matrix c.args.self.columns) (g.C.ColumnLists.listed c.args.self.columns) pairs c.are_listed.ensures c.args.self.room
    (λ r d h. (subst (λ n. r < n) c.args.self.same_rows (is.rows_within r d h), subst (λ n. d < n) c.args.self.same_cols (is.cols_within r d h)))
    (rising_distinct (cols_of pairs) is.cols_rise)
