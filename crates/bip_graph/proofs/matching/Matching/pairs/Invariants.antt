use Rattle.std.proofs.Common.{◌≡◌, ◌++◌, ◌≤◌, length, drop}
use Rattle.bip_graph.specs.Matching.{pairs_from}
use Rattle.bip_graph.proofs.matching.Matching.pairs.Given as goal

abbrev pub invariant-loop-row : goal.invariant-loop-row
invariant-loop-row l = record {
  place : l.col ≡ l.row-index;
  listed : l.pairs.items ++ pairs_from l.row-index (drop l.row-index l.row-items) ≡ l.self.pairs;
  room : length l.self.pairs ≤ l.pairs.cap;
}
