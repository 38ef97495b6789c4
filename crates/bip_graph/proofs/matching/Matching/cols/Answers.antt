use Rattle.bip_graph.proofs.MatchingViews.{seen_cols_within}
use Rattle.bip_graph.proofs.matching.Matching.cols.Goals as goal

pub returns-clause-within : goal.returns-clause-within
returns-clause-within c = λ r d. seen_cols_within c.self.inside.row_of_col.items c.self.inside.col_of_row.items c.args.self.now r d c.self.view_is
