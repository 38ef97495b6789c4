use Rattle.std.proofs.Common.{◌∙◌, sym}
use Rattle.bip_defs.proofs.Transposed.{transpose_cols}
use Rattle.column_lists.proofs.of_pattern.PatternRowsColumnLists.cols.Goals as goal

pub returns : goal.returns
returns c = c.rows.ensures ∙ sym (transpose_cols c.args.self.pattern.now)
