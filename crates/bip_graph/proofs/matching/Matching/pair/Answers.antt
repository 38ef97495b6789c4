use Rattle.std.proofs.Common.{ap, length, refl, suc, ◌∙◌, arith}
use Rattle.bip_graph.specs.Matching.{Pairing}
use Rattle.bip_graph.proofs.RowGiven.{gives_adds, paired, paired_mates, paired_size, room}
use Rattle.bip_graph.proofs.MatchingViews.{free_from, seen_gives, seen_pairing}
use Rattle.bip_graph.proofs.matching.Matching.pair.Goals as goal

pub overflow_add-self : goal.overflow_add-self
overflow_add-self c =
    let free = free_from c.self.invariant c.self.view_is c.row.view_is c.col.view_is c.requires.row_in_range c.requires.col_in_range c.requires.row_free c.requires.col_free in
    omega (arith, room free)

pub invariant_of-self : goal.invariant_of-self
invariant_of-self c = paired_mates (free_from c.self.invariant c.self.view_is c.row.view_is c.col.view_is c.requires.row_in_range c.requires.col_in_range c.requires.row_free c.requires.col_free)

pub returns-clause-pairs : goal.returns-clause-pairs
returns-clause-pairs c =
    let free = free_from c.self.invariant c.self.view_is c.row.view_is c.col.view_is c.requires.row_in_range c.requires.col_in_range c.requires.row_free c.requires.col_free in
    seen_gives c.self.invariant c.self.view_is c.row.view_is c.col.view_is (paired free) free.row_in

pub returns-clause-added : goal.returns-clause-added
returns-clause-added c =
    let free = free_from c.self.invariant c.self.view_is c.row.view_is c.col.view_is c.requires.row_in_range c.requires.col_in_range c.requires.row_free c.requires.col_free in
    gives_adds _ _ _ _ (seen_gives c.self.invariant c.self.view_is c.row.view_is c.col.view_is (paired free) free.row_in) c.requires.row_free

pub returns-clause-size : goal.returns-clause-size
returns-clause-size c =
    let free = free_from c.self.invariant c.self.view_is c.row.view_is c.col.view_is c.requires.row_in_range c.requires.col_in_range c.requires.row_free c.requires.col_free in
    paired_size free ∙ ap (λ (w : Pairing). suc (length w.pairs)) c.self.view_is

pub returns-clause-pairing : goal.returns-clause-pairing
returns-clause-pairing c =
    let free = free_from c.self.invariant c.self.view_is c.row.view_is c.col.view_is c.requires.row_in_range c.requires.col_in_range c.requires.row_free c.requires.col_free in
    seen_pairing (paired_mates free) refl
