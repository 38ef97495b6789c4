use Rattle.std.proofs.Common.{ℕ, ◌<◌, slice_index}
use Rattle.integer_diagonal.specs.Candidates.{IsFairEntry}
use Rattle.integer_diagonal.specs.Duals.{priced}
use Rattle.integer_diagonal.proofs.fairness.is_fair_column.Given as goal

abbrev pub invariant-loop-k : goal.invariant-loop-k
invariant-loop-k g l = (j : ℕ) → j < l.k → IsFairEntry (priced l.fn.weights l.candidate) l.candidate.matching.pairs (slice_index l.rows j) l.fn.col
