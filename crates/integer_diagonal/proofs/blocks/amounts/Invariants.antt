use Rattle.std.proofs.Common.{◌≡◌, length}
use Rattle.integer_diagonal.proofs.blocks.amounts.Given as goal

abbrev pub invariant-loop-number : goal.invariant-loop-number
invariant-loop-number g l = length l.amounts.items ≡ l.number-index
