use Rattle.bip_graph.specs.Matching.{IsMatchingOf}
use Rattle.matching_tests.proofs.disjoint_phases.goes_in_phases.Given as goal

abbrev pub invariant-loop-pairs : goal.invariant-loop-pairs
invariant-loop-pairs l = IsMatchingOf l.pattern l.matching
