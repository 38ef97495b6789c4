use Rattle.std.proofs.Common.{◌≡◌, ◌⊎◌, ℕ, ◌<◌, ◌≤◌, slice_index}
use Rattle.bip_defs.specs.Lists.{Among}
use Rattle.integer_diagonal.proofs.start.greatest.Given as goal

abbrev pub invariant-loop-weight : goal.invariant-loop-weight
invariant-loop-weight l = record {
  bound : (k : ℕ) → k < l.weight-index → slice_index l.weights k ≤ l.most;
  met : (l.most ≡ 0) ⊎ Among l.most l.weights;
}
