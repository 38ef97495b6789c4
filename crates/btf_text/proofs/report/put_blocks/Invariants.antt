use Rattle.std.proofs.Common.{take}
use Rattle.bip_graph.specs.Texts.{block_lines}
use Rattle.btf_text.specs.Texts.{Puts}
use Rattle.btf_text.proofs.report.put_blocks.Given as goal

abbrev pub invariant-loop-i : goal.invariant-loop-i
invariant-loop-i g l =
    Puts g.K.Sink.taken g.K.Sink.faults l.fn.text l.text (block_lines 1 (take l.i l.blocks))
