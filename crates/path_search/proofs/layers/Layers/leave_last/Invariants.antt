use Rattle.std.proofs.Common.{◌≡◌, length}
use Rattle.path_search.proofs.layers.Layers.leave_last.Given as goal

abbrev pub invariant-loop-at : goal.invariant-loop-at
invariant-loop-at l = record {
  same : l.self ≡ record l.fn.self { numbers = l.self.numbers };
  numbers : length l.self.numbers ≡ length l.fn.self.numbers;
}
