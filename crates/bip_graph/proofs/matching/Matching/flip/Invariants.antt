use Rattle.bip_graph.proofs.PartlyExchanged.{IsHalfway}
use Rattle.bip_graph.proofs.matching.Matching.flip.Given as goal

abbrev pub invariant-loop-i : goal.invariant-loop-i
invariant-loop-i l = IsHalfway l.path l.initial.self l.self l.i
