use Rattle.std.proofs.Common.{arith, ap}
use Rattle.std.proofs.lemmas.List.{take_all}
use Rattle.bip_graph.specs.Texts.{block_lines}
use Rattle.btf_text.proofs.Orders.{blocks_go_on}
use Rattle.btf_text.proofs.Puts.{puts_as, puts_none, puts_then}
use Rattle.btf_text.proofs.report.put_blocks.Goals as goal

pub loop-i-init : goal.loop-i-init
loop-i-init g c = puts_none _

pub loop-i-preserved : goal.loop-i-preserved
loop-i-preserved g c = puts_as (blocks_go_on _ _ _ (omega (arith, c.loop-i-test.true, c.len-i-end.ensures)) (omega arith) c.rows.ensures c.cols.ensures) (puts_then c.loop-i.invariant c.put_block.ensures)

pub returns : goal.returns
returns g c = puts_as (ap (block_lines 1) (take_all _ _ (omega (arith, c.loop-i-test.false, c.len-i-end.ensures)))) c.loop-i.invariant
