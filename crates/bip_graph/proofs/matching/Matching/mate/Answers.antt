use Rattle.std.proofs.Common.{length, ◌<◌, rules}
use Rattle.bip_graph.proofs.MatchingViews.{matched_with, matched_within, seen_pairing}
use Rattle.bip_graph.proofs.matching.Matching.mate.Goals as goal

pub index-requires : goal.index-requires
index-requires c =
    let within : c.col.inside.0 < length c.self.inside.row_of_col.items = matched_within c.self.inside.row_of_col.items c.self.inside.col_of_row.items c.self.view_is c.col.view_is c.requires in
    search rules

pub returns-clause-row : goal.returns-clause-row
returns-clause-row c = matched_with c.self.inside.row_of_col.items c.self.inside.col_of_row.items c.self.view_is c.col.view_is c.index.ensures c.requires

pub returns-clause-pairing : goal.returns-clause-pairing
returns-clause-pairing c = seen_pairing c.self.invariant c.self.view_is
