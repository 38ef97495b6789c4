use Rattle.std.proofs.Common.{◌+◌, ◌*◌, ◌/◌, arith}
use Rattle.int_set.proofs.IntSet.new.Goals as goal
use Rattle.int_set.proofs.Members.{zeros_empty, zeros_set}

pub invariant_of-result : goal.invariant_of-result
invariant_of-result c = rw c.in_ok-words.ensures (zeros_set _ _ _ _ c.shape_for-shape.ensures.start (omega arith) c.shape_for-shape.ensures.wide c.shape_for-shape.ensures.small (omega arith))

pub returns : goal.returns
returns c = rw c.in_ok-words.ensures (λ i. record { bound = c.args.bound; members = zeros_empty (c.shape_for-shape.result.start + (c.args.bound / 64 + 1)) (64 * c.shape_for-shape.result.start) c.args.bound i })
