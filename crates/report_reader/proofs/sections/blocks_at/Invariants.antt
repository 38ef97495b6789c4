use Rattle.report_reader.specs.ReportGrammar.{blocks_at}
use Rattle.report_reader.proofs.BlockLists.{HaveRead}
use Rattle.report_reader.proofs.sections.blocks_at.Given as goal

abbrev pub invariant-loop-at : goal.invariant-loop-at
invariant-loop-at l = HaveRead l.fn.room l.read l.count l.at l.room l.rest (blocks_at l.count 1 l.fn.room l.bytes)
