use Rattle.std.proofs.Common.{ℕ, ◌+◌, ◌<◌, slice_index}
use Rattle.bip_defs.specs.Lists.{Among}
use Rattle.blocktri.specs.GivenPairs.{lists_matched}
use Rattle.blocktri.proofs.warm_start.are_lists_matched.Given as goal

abbrev pub invariant-loop-list : goal.invariant-loop-list
invariant-loop-list g l = (i : ℕ) → i < l.list → slice_index l.matrix.starts i < slice_index l.matrix.starts (i + 1) → Among i (lists_matched l.matrix.by_rows l.matching.pairs)
