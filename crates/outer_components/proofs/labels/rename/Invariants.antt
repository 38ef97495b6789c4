use Rattle.outer_components.proofs.MergeLemmas.{AreRenaming}
use Rattle.outer_components.proofs.labels.rename.Given as goal

abbrev pub invariant-loop-at : goal.invariant-loop-at
invariant-loop-at l = AreRenaming l.numbers l.fn.labels l.at l.labels
