use Rattle.blocktri.specs.OuterComponents.{AreNumbered, cols_of_block}
use Rattle.blocktri.proofs.component_numbers.write_column_numbers.Given as goal

abbrev pub invariant-loop-block : goal.invariant-loop-block
invariant-loop-block l = AreNumbered cols_of_block l.blocks l.block l.fn.columns l.columns
