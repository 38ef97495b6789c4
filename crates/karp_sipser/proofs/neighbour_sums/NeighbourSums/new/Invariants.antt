use Rattle.std.proofs.Common.{◌≡◌, ◌<◌, ◌≤◌, ℕ, [], length, slice_index}
use Rattle.bip_defs.specs.Lists.{Among}
use Rattle.bip_defs.specs.Matrix.{cols, column}
use Rattle.bip_defs.specs.Start.{IsFree}
use Rattle.karp_sipser.specs.NeighbourSums.{IsSum, LooksLikeOne}
use Rattle.karp_sipser.proofs.neighbour_sums.NeighbourSums.new.Given as goal

abbrev pub invariant-loop-vertex : goal.invariant-loop-vertex
invariant-loop-vertex g l = record {
  count : l.count ≡ cols (g.S.Side.matrix l.side);
  long : length l.words.items ≡ cols (g.S.Side.matrix l.side);
  bound : l.of_one.bound ≡ cols (g.S.Side.matrix l.side);
  sums : (c : ℕ) → c < l.vertex → IsSum l.unit (λ r. IsFree (g.S.Side.matrix l.side) [] r c) (slice_index l.words.items c);
  ones : (c : ℕ) → c < l.vertex → LooksLikeOne l.unit (slice_index l.words.items c) → Among c l.of_one.members;
  longest : (c : ℕ) → c < l.vertex → length (column (g.S.Side.matrix l.side) c) ≤ l.longest;
}
