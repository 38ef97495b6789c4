use Rattle.std.proofs.Common.{◌∙◌, sym}
use Rattle.filled_columns.proofs.FilledMatrices.{filled_cols}
use Rattle.filled_columns.proofs.fill.FilledColumnsColumnLists.cols.Goals as goal

pub returns : goal.returns
returns g c = c.cols.ensures ∙ sym (filled_cols (g.C.ColumnLists.matrix c.args.self.columns) c.args.self.matching.now.pairs)
