use Rattle.std.proofs.Common.{ap, length, ◌∙◌, arith, refl, sym}
use Rattle.bip_graph.specs.Matching.{Pairing}
use Rattle.bip_graph.proofs.MatchingViews.{seen_pairing}
use Rattle.bip_graph.proofs.PairParted.{paired_from, parted_mates, parted_size, seen_parted}
use Rattle.bip_graph.proofs.matching.Matching.unpair.Goals as goal

pub index_mut-requires : goal.index_mut-requires
index_mut-requires c = let paired = paired_from c.self.invariant c.self.view_is c.row.view_is c.col.view_is c.requires in omega (arith, paired.col_in)

pub index_mut-requires-2 : goal.index_mut-requires-2
index_mut-requires-2 c = let paired = paired_from c.self.invariant c.self.view_is c.row.view_is c.col.view_is c.requires in omega (arith, paired.row_in)

pub invariant_of-self : goal.invariant_of-self
invariant_of-self c = parted_mates (paired_from c.self.invariant c.self.view_is c.row.view_is c.col.view_is c.requires)

pub returns-clause-pairs : goal.returns-clause-pairs
returns-clause-pairs c = seen_parted c.self.view_is c.row.view_is (paired_from c.self.invariant c.self.view_is c.row.view_is c.col.view_is c.requires)

pub returns-clause-size : goal.returns-clause-size
returns-clause-size c = sym (parted_size (paired_from c.self.invariant c.self.view_is c.row.view_is c.col.view_is c.requires) ∙ ap (λ (w : Pairing). length w.pairs) c.self.view_is)

pub returns-clause-pairing : goal.returns-clause-pairing
returns-clause-pairing c = seen_pairing (parted_mates (paired_from c.self.invariant c.self.view_is c.row.view_is c.col.view_is c.requires)) refl
