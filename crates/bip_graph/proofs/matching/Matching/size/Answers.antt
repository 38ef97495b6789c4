use Rattle.bip_graph.proofs.MatchingViews.{seen_cols_rise, seen_rows_differ}
use Rattle.bip_graph.proofs.matching.Matching.size.Goals as goal

pub returns-clause-rows_differ : goal.returns-clause-rows_differ
returns-clause-rows_differ c = seen_rows_differ c.self.inside.row_of_col.items c.self.inside.col_of_row.items c.self.inside.size c.args.self.now c.self.invariant c.self.view_is

pub returns-clause-cols_rise : goal.returns-clause-cols_rise
returns-clause-cols_rise c = seen_cols_rise c.self.inside.row_of_col.items c.self.inside.col_of_row.items c.args.self.now c.self.view_is
