use Rattle.std.proofs.Common.{ℕ, ◌<◌}
use Rattle.integer_diagonal.specs.Candidates.{IsFairColumn}
use Rattle.integer_diagonal.specs.Duals.{priced}
use Rattle.integer_diagonal.proofs.fairness.is_fair.Given as goal

abbrev pub invariant-loop-col : goal.invariant-loop-col
invariant-loop-col g l = (c : ℕ) → c < l.col → IsFairColumn (priced l.weights l.candidate) l.candidate.matching.pairs c
