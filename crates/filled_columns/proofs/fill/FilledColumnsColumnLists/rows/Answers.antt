use Rattle.std.proofs.Common.{◌∙◌, sym}
use Rattle.filled_columns.proofs.FilledMatrices.{filled_rows}
use Rattle.filled_columns.proofs.fill.FilledColumnsColumnLists.rows.Goals as goal

pub returns : goal.returns
returns g c = c.rows.ensures ∙ sym (filled_rows (g.C.ColumnLists.matrix c.args.self.columns) c.args.self.matching.now.pairs)
