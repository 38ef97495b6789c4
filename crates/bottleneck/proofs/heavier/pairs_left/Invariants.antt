use Rattle.bottleneck.proofs.HeavierLemmas.{AreLeft}
use Rattle.bottleneck.proofs.heavier.pairs_left.Given as goal

abbrev pub invariant-loop-col : goal.invariant-loop-col
invariant-loop-col l = AreLeft l.pattern l.matching l.left l.col
