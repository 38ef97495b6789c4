use Rattle.std.proofs.Common.{◌≡◌, drop, length}
use Rattle.integer_diagonal.specs.Labels.{AreListed, labels_of}
use Rattle.integer_diagonal.proofs.search.DijkstraSearch.clear.Given as goal

abbrev pub invariant-loop-k : goal.invariant-loop-k
invariant-loop-k g l = record {
  listed : AreListed (labels_of l.self) (drop l.k l.fn.self.reached.items);
  reached : l.self.reached.items ≡ l.fn.self.reached.items;
  distances : length l.self.distances.items ≡ length l.fn.self.distances.items;
  settled : length l.self.settled.items ≡ length l.fn.self.distances.items;
  parents : length l.self.parents.items ≡ length l.fn.self.distances.items;
}
