use Rattle.int_set.specs.Tree.{start_of}
use Rattle.int_set.proofs.Least.{IsLeastWord}
use Rattle.int_set.proofs.tree.least_bit.Given as goal

abbrev pub invariant-loop : goal.invariant-loop
invariant-loop l = IsLeastWord l.words (start_of l.counter) l.at
