use Rattle.std.proofs.Common.{◌≡◌, ◌+◌, length, drop}
use Rattle.bip_graph.specs.Matching.{pairs_from, pairs_of}
use Rattle.bip_graph.proofs.matching.count_mates.Given as goal

abbrev pub invariant-loop-row : goal.invariant-loop-row
invariant-loop-row l = l.count + length (pairs_from l.row-index (drop l.row-index l.row_of_col)) ≡ length (pairs_of l.row_of_col)
