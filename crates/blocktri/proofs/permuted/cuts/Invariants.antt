use Rattle.std.proofs.Common.{◌≡◌, ◌+◌, ◌++◌, map}
use Rattle.bip_defs.specs.Matrix.{upto}
use Rattle.bip_graph.specs.Orders.{rows_before}
use Rattle.blocktri.specs.Dmperm.{cut_if}
use Rattle.blocktri.proofs.permuted.cuts.Given as goal

abbrev pub invariant-loop-block : goal.invariant-loop-block
invariant-loop-block l = record {
  at_is : l.at ≡ l.horizontal + rows_before l.form.blocks l.block;
  cuts_are : l.cuts.items ≡ cut_if l.form.parts.hc.items 0 ++ map (λ i. l.horizontal + rows_before l.form.blocks i) (upto l.block);
}
