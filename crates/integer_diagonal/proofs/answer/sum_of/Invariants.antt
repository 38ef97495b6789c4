use Rattle.std.proofs.Common.{◌≡◌, ◌*◌, ◌^◌, ◌≤◌, pos, take}
use Rattle.integer_diagonal.specs.Prices.{total}
use Rattle.integer_diagonal.proofs.answer.sum_of.Given as goal

abbrev pub invariant-loop-k : goal.invariant-loop-k
invariant-loop-k l = record {
  sum_is : l.sum ≡ pos (total l.weights (take l.k l.pairs));
  fits : total l.weights (take l.k l.pairs) ≤ l.k * 2 ^ 64;
}
