use Rattle.std.proofs.Common.{◌≤◌, vec_capacity}
use Rattle.bip_defs.specs.Lists.{Among, IsRising}
use Rattle.square_components.specs.Steps.{IsLast, Passes}
use Rattle.square_components.proofs.search.pass.Given as goal

abbrev pub invariant-loop-at : goal.invariant-loop-at
invariant-loop-at g l = record {
  passes : Passes l.state (g.N.NumberList.numbers l.list) l.from l.fn.starts.items l.at l.starts.items;
  rising : IsRising l.starts.items;
  first : Among 0 l.starts.items;
  last : IsLast l.starts.items l.last;
  capacity : vec_capacity l.fn.starts ≤ vec_capacity l.starts;
}
