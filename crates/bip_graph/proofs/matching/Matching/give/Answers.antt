use Rattle.std.proofs.Common.{ap, length, ◌<◌, ◌∙◌, rules}
use Rattle.bip_graph.specs.Matching.{Pairing}
use Rattle.bip_graph.proofs.RowGiven.{given, given_mates, given_size}
use Rattle.bip_graph.proofs.MatchingViews.{mate_within, seen_cols_rise, seen_gives, taken_from}
use Rattle.bip_defs.proofs.Sets.{rising_distinct}
use Rattle.bip_graph.proofs.matching.Matching.give.Goals as goal

pub index_mut-requires : goal.index_mut-requires
index_mut-requires c =
    let within : c.index-before.result.now < length c.self.inside.row_of_col.items = mate_within c.self.invariant c.self.view_is c.row.view_is c.index-before.ensures c.requires.row_in_range c.requires.row_taken in
    search rules

pub invariant_of-self : goal.invariant_of-self
invariant_of-self c = given_mates (taken_from c.self.invariant c.self.view_is c.row.view_is c.col.view_is c.index-before.ensures c.requires.row_in_range c.requires.col_in_range c.requires.row_taken c.requires.col_free)

pub returns-clause-pairs : goal.returns-clause-pairs
returns-clause-pairs c =
    let taken = taken_from c.self.invariant c.self.view_is c.row.view_is c.col.view_is c.index-before.ensures c.requires.row_in_range c.requires.col_in_range c.requires.row_taken c.requires.col_free in
    seen_gives c.self.invariant c.self.view_is c.row.view_is c.col.view_is (given taken) taken.row_in

pub returns-clause-size : goal.returns-clause-size
returns-clause-size c =
    let taken = taken_from c.self.invariant c.self.view_is c.row.view_is c.col.view_is c.index-before.ensures c.requires.row_in_range c.requires.col_in_range c.requires.row_taken c.requires.col_free in
    given_size taken ∙ ap (λ (w : Pairing). length w.pairs) c.self.view_is

pub returns-clause-cols_differ : goal.returns-clause-cols_differ
returns-clause-cols_differ c = rising_distinct _ (seen_cols_rise _ _ _ c.self.view_is)
