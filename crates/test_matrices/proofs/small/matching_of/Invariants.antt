use Rattle.bip_graph.specs.Matching.{IsMatchingOf}
use Rattle.test_matrices.proofs.small.matching_of.Given as goal

abbrev pub invariant-loop-row : goal.invariant-loop-row
invariant-loop-row l = IsMatchingOf l.pattern l.matching
