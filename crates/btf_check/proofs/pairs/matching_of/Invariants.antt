use Rattle.btf_check.proofs.PairLemmas.{IsPairingUp}
use Rattle.btf_check.proofs.pairs.matching_of.Given as goal

abbrev pub invariant-loop-pair : goal.invariant-loop-pair
invariant-loop-pair l = IsPairingUp l.pattern l.pairs l.pair-index l.matching
