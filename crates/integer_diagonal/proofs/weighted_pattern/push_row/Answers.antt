use Rattle.std.proofs.Common.{sym}
use Rattle.integer_diagonal.proofs.PhaseLemmas.{col_entry}
use Rattle.integer_diagonal.proofs.weighted_pattern.push_row.Goals as goal

pub pass-weight-requires-clause-entry : goal.pass-weight-requires-clause-entry
pass-weight-requires-clause-entry c =
    col_entry c.pattern.result.now c.args.weights.now.matrix c.args.row c.cols_of-cols.result.now c.loop-k.k c.index-cols-k.result (sym c.pattern.ensures) c.cols_of-cols.ensures.cols c.loop-k-test.true c.index-cols-k.is
