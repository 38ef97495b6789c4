use Rattle.bip_defs.specs.Matching.{Covers}
use Rattle.bip_graph.specs.Matching.{IsMatchingOf}
use Rattle.mc21_match.specs.Searched.{AreTriedBelow}
use Rattle.mc21_match.proofs.complete.Given as goal

abbrev pub invariant-loop-number : goal.invariant-loop-number
invariant-loop-number l = record {
  matching : IsMatchingOf l.pattern l.grown;
  searched : AreTriedBelow l.pattern l.grown l.search l.number;
  covered : Covers l.fn.matching.pairs l.grown.pairs;
}
