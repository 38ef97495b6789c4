use Rattle.std.proofs.Common.{◌≤◌, ◌-◌, ◌+◌, length}
use Rattle.bip_defs.specs.Matrix.{cols}
use Rattle.least_match.specs.Ahead.{AreFirstCols, AreFirstRows}
use Rattle.least_match.specs.Outcomes.{AreScanned, AreScannedBack}
use Rattle.least_match.specs.Trees.{AreSearchTrees, HaveCols}
use Rattle.least_match.proofs.tail.ClassTail.search.Given as goal

abbrev pub invariant-loop-trees : goal.invariant-loop-trees
invariant-loop-trees l = record {
  cols : HaveCols (cols l.self.pattern.now) l.trees;
  trees : AreSearchTrees l.self.pattern.now l.matching.pairs l.self.classes.now l.self.col l.fn.first l.trees.forward.queue l.trees.backward.queue;
  next_rows : AreFirstRows l.self.pattern.now l.next_rows;
  next_cols : AreFirstCols l.self.pattern.now l.next_cols;
  forward_at : l.forward_at ≤ length l.trees.forward.queue;
  backward_at : l.backward_at ≤ length l.trees.backward.queue;
  scanned : AreScanned l.self.pattern.now l.matching.pairs l.self.classes.now l.self.col l.trees.forward.queue l.forward_at;
  scanned_back : AreScannedBack l.self.pattern.now l.matching.pairs l.self.classes.now l.self.col l.trees.backward.queue l.backward_at;
}

abbrev pub decreases-loop-trees : goal.decreases-loop-trees
decreases-loop-trees l = (cols l.self.pattern.now - l.forward_at) + (cols l.self.pattern.now - l.backward_at)
