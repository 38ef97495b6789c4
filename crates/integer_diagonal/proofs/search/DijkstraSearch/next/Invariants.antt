use Rattle.std.proofs.Common.{◌≡◌, ◌⊎◌, ℕ, length}
use Rattle.bip_defs.specs.Lists.{Among, IsMarked}
use Rattle.integer_diagonal.specs.Labels.{labels_of, tree_of}
use Rattle.integer_diagonal.proofs.search.DijkstraSearch.next.Given as goal

abbrev pub invariant-loop-nearest : goal.invariant-loop-nearest
invariant-loop-nearest g l = record {
  labels : labels_of l.self ≡ record (labels_of l.fn.self) { waiting = l.self.frontier };
  tree : tree_of l.self ≡ tree_of l.fn.self;
  listed : l.self.reached.items ≡ l.fn.self.reached.items;
  holds : (e : ℕ × ℕ) → Among e l.self.frontier → Among e l.fn.self.frontier;
  keeps : (e : ℕ × ℕ) → Among e l.fn.self.frontier → IsMarked l.fn.self.settled.items e.1 ⊎ Among e l.self.frontier;
}

abbrev pub decreases-loop-nearest : goal.decreases-loop-nearest
decreases-loop-nearest g l = length l.self.frontier
