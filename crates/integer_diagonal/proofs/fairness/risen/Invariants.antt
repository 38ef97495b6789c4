use Rattle.std.proofs.Common.{◌≡◌, ◌+◌, map, take}
use Rattle.integer_diagonal.proofs.fairness.risen.Given as goal

abbrev pub invariant-loop-amount : goal.invariant-loop-amount
invariant-loop-amount g l = l.higher.items ≡ map (λ a. a + l.rise) (take l.amount-index l.amounts)
