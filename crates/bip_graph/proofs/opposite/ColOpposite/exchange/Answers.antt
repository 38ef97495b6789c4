use Rattle.std.proofs.Common.{◌∙◌, List, arith, sym, subst}
use Rattle.bip_defs.specs.Lists.{Among, AreDistinct}
use Rattle.bip_defs.specs.Matching.{cols_of}
use Rattle.bip_defs.specs.Matrix.{Place}
use Rattle.bip_defs.specs.Paths.{Exchanges, IsAugmenting}
use Rattle.bip_defs.proofs.Covers.{turned_covers}
use Rattle.bip_defs.proofs.Sets.{rising_distinct}
use Rattle.bip_defs.proofs.Transposed.{turned_length}
use Rattle.bip_graph.proofs.Backwards.{backwards_augments, backwards_back, backwards_exchanges, backwards_matching}
use Rattle.bip_graph.proofs.opposite.ColOpposite.exchange.Goals as goal

pub flip-requires-clause-in_range : goal.flip-requires-clause-in_range
flip-requires-clause-in_range c = λ r x h.
    let within = c.requires.in_range x r (backwards_back r x c.args.path.now (subst (λ (z : List Place). Among (r, x) z) c.transpose_path.ensures h)) in
    (within.1, within.0)

pub flip-requires-clause-path : goal.flip-requires-clause-path
flip-requires-clause-path c = subst (λ (z : List Place). IsAugmenting c.args.matching.now.pairs z) (sym c.transpose_path.ensures) (backwards_augments c.args.matching.now.pairs c.args.path.now c.is_matching.ensures.rows_differ c.requires.path)

pub returns-clause-pairs : goal.returns-clause-pairs
returns-clause-pairs c =
    let cols : AreDistinct (cols_of c.args.matching.now.pairs) = rising_distinct _ c.is_matching.ensures.cols_rise in
    backwards_exchanges c.args.matching.now.pairs c.flip.new.self.pairs c.args.path.now c.is_matching.ensures.rows_differ cols c.requires.path (subst (λ (z : List Place). Exchanges z c.args.matching.now.pairs c.flip.new.self.pairs) c.transpose_path.ensures c.flip.ensures.pairs)

pub returns-clause-size : goal.returns-clause-size
returns-clause-size c = omega (arith, turned_length c.args.matching.now.pairs, turned_length c.flip.new.self.pairs, c.flip.ensures.size)

pub returns-clause-matching : goal.returns-clause-matching
returns-clause-matching c = λ a of path. record {
  rows = c.flip.ensures.sizes.1 ∙ of.rows;
  cols = c.flip.ensures.sizes.0 ∙ of.cols;
  matching = backwards_matching a c.args.matching.now.pairs c.flip.new.self.pairs c.args.path.now of.matching path (λ b k on. c.flip.ensures.entries b k (rw c.transpose_path.ensures on));
}

pub returns-clause-covered : goal.returns-clause-covered
returns-clause-covered c = turned_covers c.args.matching.now.pairs c.flip.new.self.pairs c.flip.ensures.covered
