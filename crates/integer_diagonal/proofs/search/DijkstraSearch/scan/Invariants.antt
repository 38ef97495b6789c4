use Rattle.std.proofs.Common.{◌≡◌, ℕ, ◌<◌, get_or}
use Rattle.integer_diagonal.specs.Labels.{AreKnown, AreListed, IsBest, IsKept, IsKnown, labels_of, tree_of}
use Rattle.integer_diagonal.specs.Duals.{priced}
use Rattle.integer_diagonal.specs.SearchTree.{depth}
use Rattle.integer_diagonal.proofs.search.DijkstraSearch.scan.Given as goal

abbrev pub invariant-loop-k : goal.invariant-loop-k
invariant-loop-k g l = record {
  tree : tree_of l.self ≡ tree_of l.fn.self;
  kept : IsKept (priced l.fn.weights l.assignment) l.assignment.matching.pairs (tree_of l.fn.self) (labels_of l.self) (depth (tree_of l.fn.self) l.place);
  best : IsBest (priced l.fn.weights l.assignment) l.assignment.matching.pairs (tree_of l.fn.self) l.nearest (depth (tree_of l.fn.self) l.place);
  known : AreKnown (priced l.fn.weights l.assignment) (tree_of l.fn.self) (labels_of l.self) l.nearest.distance l.place;
  part : (j : ℕ) → j < l.k → IsKnown (priced l.fn.weights l.assignment) (tree_of l.fn.self) (labels_of l.self) l.nearest.distance l.place (get_or l.rows j 0);
  listed : AreListed (labels_of l.self) l.self.reached.items;
}
