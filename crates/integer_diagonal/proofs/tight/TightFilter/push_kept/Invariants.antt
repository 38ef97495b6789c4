use Rattle.std.proofs.Common.{◌≡◌, ◌++◌, filter, nat_eq, take}
use Rattle.integer_diagonal.specs.Duals.{dual, paid, priced}
use Rattle.integer_diagonal.proofs.tight.TightFilter.push_kept.Given as goal

abbrev pub invariant-loop-k : goal.invariant-loop-k
invariant-loop-k g l = l.kept.items ≡ l.fn.kept.items ++ filter (λ r. nat_eq (paid (priced l.self.weights.now l.self.assignment.now) r l.fn.col) (dual (priced l.self.weights.now l.self.assignment.now) l.fn.col)) (take l.k l.rows)
