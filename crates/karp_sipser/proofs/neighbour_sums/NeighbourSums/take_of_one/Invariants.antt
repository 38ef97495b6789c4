use Rattle.std.proofs.Common.{length}
use Rattle.karp_sipser.specs.NeighbourSums.{AreSums, HoldsOnes}
use Rattle.karp_sipser.proofs.neighbour_sums.NeighbourSums.take_of_one.Given as goal

abbrev pub invariant-loop-vertex : goal.invariant-loop-vertex
invariant-loop-vertex g l = record {
  sums : AreSums (g.S.Side.matrix l.side) (g.I.Opposite.seen l.matching).pairs l.self;
  ones : HoldsOnes (g.S.Side.matrix l.side) (g.I.Opposite.seen l.matching).pairs l.self.of_one.members;
}

abbrev pub decreases-loop-vertex : goal.decreases-loop-vertex
decreases-loop-vertex g l = length l.self.of_one.members
