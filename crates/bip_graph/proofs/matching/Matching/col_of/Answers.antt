use Rattle.bip_graph.proofs.MatchingViews.{row_with, row_without}
use Rattle.bip_graph.proofs.matching.Matching.col_of.Goals as goal

pub returns-then-col-clause-none : goal.returns-then-col-clause-none
returns-then-col-clause-none c = row_without c.self.inside.row_of_col.items c.self.inside.col_of_row.items c.self.inside.size c.args.self.now c.row.inside.0 c.args.row c.index-col.result.now c.self.invariant c.self.view_is c.row.view_is c.requires c.index-col.ensures c.if-col.true

pub returns-else-col-clause-found : goal.returns-else-col-clause-found
returns-else-col-clause-found c = row_with c.self.inside.row_of_col.items c.self.inside.col_of_row.items c.self.inside.size c.args.self.now c.row.inside.0 c.args.row c.index-col.result.now c.self.invariant c.self.view_is c.row.view_is c.requires c.index-col.ensures c.if-col.false
