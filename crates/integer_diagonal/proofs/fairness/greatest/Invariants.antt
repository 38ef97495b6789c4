use Rattle.std.proofs.Common.{ℕ, ◌<◌, ◌≤◌, slice_index}
use Rattle.integer_diagonal.proofs.fairness.greatest.Given as goal

abbrev pub invariant-loop-amount : goal.invariant-loop-amount
invariant-loop-amount g l = (k : ℕ) → k < l.amount-index → slice_index l.amounts k ≤ l.most
