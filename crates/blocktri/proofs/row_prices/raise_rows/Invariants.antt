use Rattle.std.proofs.Common.{◌≡◌, ◌<◌, IsTrue}
use Rattle.blocktri.specs.RowPrices.{AreMet, AreRaised, gap}
use Rattle.blocktri.proofs.row_prices.raise_rows.Given as goal

abbrev pub invariant-loop-i : goal.invariant-loop-i
invariant-loop-i l = record {
  prices : AreRaised l.rows l.weights l.base l.i l.fn.u.items l.u.items;
  nearer : IsTrue l.raised → gap l.u.items < gap l.fn.u.items;
  same : ¬ IsTrue l.raised → l.u.items ≡ l.fn.u.items;
  met : ¬ IsTrue l.raised → AreMet l.rows l.weights l.base l.i l.fn.u.items;
}
