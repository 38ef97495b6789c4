use Rattle.std.proofs.Common.{take}
use Rattle.least_match.specs.Searches.{GrowsForward}
use Rattle.least_match.proofs.SearchLemmas.{AreSeen}
use Rattle.least_match.proofs.tail.ClassTail.scan_forward.Given as goal

abbrev pub invariant-loop-index : goal.invariant-loop-index
invariant-loop-index l = record {
  grown : GrowsForward l.self l.matching.pairs l.fn.trees l.trees;
  seen : AreSeen l.matching.pairs l.self.classes.now l.self.col l.trees.forward.queue (take l.index l.rows.ids.now);
}
