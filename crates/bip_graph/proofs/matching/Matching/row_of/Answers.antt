use Rattle.bip_graph.proofs.MatchingViews.{col_with, col_without}
use Rattle.bip_graph.proofs.matching.Matching.row_of.Goals as goal

pub returns-then-row-clause-none : goal.returns-then-row-clause-none
returns-then-row-clause-none c = col_without c.self.inside.row_of_col.items c.self.inside.col_of_row.items c.args.self.now c.col.inside.0 c.args.col c.index-row.result.now c.self.view_is c.col.view_is c.requires c.index-row.ensures c.if-row.true

pub returns-else-row-clause-found : goal.returns-else-row-clause-found
returns-else-row-clause-found c = col_with c.self.inside.row_of_col.items c.self.inside.col_of_row.items c.args.self.now c.col.inside.0 c.args.col c.index-row.result.now c.self.view_is c.col.view_is c.requires c.index-row.ensures c.if-row.false
