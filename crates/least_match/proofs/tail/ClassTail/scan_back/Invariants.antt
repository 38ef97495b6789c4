use Rattle.std.proofs.Common.{take}
use Rattle.least_match.specs.Searches.{GrowsBack}
use Rattle.least_match.proofs.SearchLemmas.{AreSeenBack}
use Rattle.least_match.proofs.tail.ClassTail.scan_back.Given as goal

abbrev pub invariant-loop-index : goal.invariant-loop-index
invariant-loop-index l = record {
  grown : GrowsBack l.self l.matching.pairs l.fn.trees l.trees;
  seen : AreSeenBack l.self.classes.now l.self.col l.trees.backward.queue (take l.index l.found.ids.now);
}
