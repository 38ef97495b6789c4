-- Matchings seen from the rows.
use Rattle.std.proofs.Common.{◌↔◌, ◌∙◌, List, sym, subst}
use Rattle.bip_defs.specs.Matching.{IsMatching, IsMaximum, transposed_places}
use Rattle.bip_defs.specs.Matrix.{Matrix, Place, transpose}
use Rattle.bip_defs.proofs.Transposed.{transpose_back, transpose_cols, transpose_is, turned_matching, turned_maximum, turned_twice}
use Rattle.bip_graph.specs.Matching.{IsMatchingOf, IsMaximumOf, Pairing, transposed}

turned : (a : Matrix) (m : Pairing) → IsMatchingOf a m → IsMatchingOf (transpose a) (transposed m)
turned a m k = record { rows = k.cols; cols = k.rows ∙ sym (transpose_cols a); matching = turned_matching a (transpose a) m.pairs (transpose_is a) k.matching }

straight : (a : Matrix) (m : Pairing) → IsMatchingOf (transpose a) (transposed m) → IsMatchingOf a m
straight a m k = record {
  rows = k.cols ∙ transpose_cols a;
  cols = k.rows;
  matching = subst (λ (z : List Place). IsMatching a z) (turned_twice m.pairs) (turned_matching (transpose a) a (transposed_places m.pairs) (transpose_back a (transpose a) (transpose_is a)) k.matching);
}

pub transposed_matching : (a : Matrix) (m : Pairing) → IsMatchingOf a m ↔ IsMatchingOf (transpose a) (transposed m)
transposed_matching a m = (turned a m, straight a m)

pub transposed_maximum : (a : Matrix) (m : Pairing) → IsMaximumOf a m ↔ IsMaximumOf (transpose a) (transposed m)
transposed_maximum a m = (λ k. record { matching = turned a m k.matching; maximum = turned_maximum a (transpose a) m.pairs (transpose_is a) k.maximum }, λ k. record { matching = straight a m k.matching; maximum = subst (λ (z : List Place). IsMaximum a z) (turned_twice m.pairs) (turned_maximum (transpose a) a (transposed_places m.pairs) (transpose_back a (transpose a) (transpose_is a)) k.maximum) })
