use Rattle.std.proofs.Common.{◌≡◌}
use Rattle.integer_diagonal.proofs.RaisedDuals.{DualsRise, PricesRise}
use Rattle.integer_diagonal.proofs.path.raise.Given as goal

abbrev pub invariant-loop-place : goal.invariant-loop-place
invariant-loop-place g l = record {
  duals : DualsRise l.queue l.depths l.distance l.place l.fn.assignment.duals.items l.assignment.duals.items;
  prices : PricesRise l.fn.assignment.matching.pairs l.queue l.depths l.distance l.place l.fn.assignment.prices.items l.assignment.prices.items;
  top : l.assignment.top ≡ l.fn.assignment.top;
  matching : l.assignment.matching ≡ l.fn.assignment.matching;
}
