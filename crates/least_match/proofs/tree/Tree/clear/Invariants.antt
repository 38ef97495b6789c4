use Rattle.std.proofs.Common.{◌≡◌, ◌≤◌, length, vec_capacity}
use Rattle.least_match.specs.Tree.{IsIndexed}
use Rattle.least_match.proofs.tree.Tree.clear.Given as goal

abbrev pub invariant-loop-col : goal.invariant-loop-col
invariant-loop-col l = record {
  indexed : IsIndexed l.self-inside.places.items l.self-inside.queue.items;
  room : length l.self-inside.places.items ≤ vec_capacity l.self-inside.queue;
  same : length l.self-inside.places.items ≡ length l.initial.self-inside.places.items;
}

abbrev pub decreases-loop-col : goal.decreases-loop-col
decreases-loop-col l = length l.self-inside.queue.items
