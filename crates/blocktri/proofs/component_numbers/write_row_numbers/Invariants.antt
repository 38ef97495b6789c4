use Rattle.blocktri.specs.OuterComponents.{AreNumbered, rows_of_block}
use Rattle.blocktri.proofs.component_numbers.write_row_numbers.Given as goal

abbrev pub invariant-loop-block : goal.invariant-loop-block
invariant-loop-block l = AreNumbered rows_of_block l.blocks l.block l.fn.rows l.rows
