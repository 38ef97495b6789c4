use Rattle.std.proofs.Common.{◌-◌, ◌+◌, ℕ, length}
use Rattle.bip_defs.specs.Matrix.{cols}
use Rattle.integer_diagonal.specs.Labels.{IsSearch, labels_of, tree_of}
use Rattle.integer_diagonal.specs.Duals.{priced}
use Rattle.integer_diagonal.proofs.search.DijkstraSearch.find.Given as goal

abbrev pub invariant-loop-closest : goal.invariant-loop-closest
invariant-loop-closest g l = record {
  search : (level : ℕ) × IsSearch (priced l.weights l.assignment) l.assignment.matching.pairs l.fn.root (tree_of l.self) (labels_of l.self) l.nearest l.self.reached.items level (length l.self.queue.items);
}

abbrev pub decreases-loop-closest : goal.decreases-loop-closest
decreases-loop-closest g l = cols l.weights.matrix + 1 - length l.self.queue.items
