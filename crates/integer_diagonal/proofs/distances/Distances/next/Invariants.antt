use Rattle.std.proofs.Common.{◌≡◌, ℕ, length}
use Rattle.bip_defs.specs.Lists.{Among}
use Rattle.integer_diagonal.proofs.distances.Distances.next.Given as goal

abbrev pub invariant-loop-nearest : goal.invariant-loop-nearest
invariant-loop-nearest g l = record {
  of_far : l.self.of_far ≡ l.fn.self.of_far;
  radius : l.self.radius ≡ l.fn.self.radius;
  holds : (e : ℕ × ℕ) → Among e l.self.frontier → Among e l.fn.self.frontier;
}

abbrev pub decreases-loop-nearest : goal.decreases-loop-nearest
decreases-loop-nearest g l = length l.self.frontier
