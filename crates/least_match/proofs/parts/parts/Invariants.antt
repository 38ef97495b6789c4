use Rattle.least_match.proofs.PartLemmas.{ArePartedBelow}
use Rattle.least_match.proofs.parts.parts.Given as goal

abbrev pub invariant-loop-col : goal.invariant-loop-col
invariant-loop-col l = ArePartedBelow l.pattern l.col l.parts.items
