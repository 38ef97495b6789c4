use Rattle.std.proofs.Common.{◌≤◌, length, vec_capacity}
use Rattle.square_components.specs.Steps.{IsLast}
use Rattle.square_components.proofs.Changes.{IsCut}
use Rattle.square_components.proofs.search.drop_from.Given as goal

abbrev pub invariant-loop-last : goal.invariant-loop-last
invariant-loop-last l = record {
  cut : IsCut l.met l.fn.starts.items l.starts.items;
  last : IsLast l.starts.items l.last;
  capacity : vec_capacity l.fn.starts ≤ vec_capacity l.starts;
}

abbrev pub decreases-loop-last : goal.decreases-loop-last
decreases-loop-last l = length l.starts.items
