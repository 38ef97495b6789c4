use Rattle.std.proofs.Common.{◌≡◌, ◌<◌, IsTrue}
use Rattle.blocktri.specs.RowPrices.{AreEnough, AreLow, gap}
use Rattle.blocktri.proofs.row_prices.raise_all.Given as goal

abbrev pub invariant-loop-k : goal.invariant-loop-k
invariant-loop-k l = record {
  low : AreLow l.weights l.pairs l.u.items;
  nearer : IsTrue l.raised → gap l.u.items < gap l.fn.u.items;
  same : ¬ IsTrue l.raised → l.u.items ≡ l.fn.u.items;
  enough : ¬ IsTrue l.raised → AreEnough l.weights l.pairs l.k l.fn.u.items;
}
