use Rattle.report_reader.specs.ReportGrammar.{numbered_at}
use Rattle.report_reader.proofs.ComponentLists.{HaveNumbered}
use Rattle.report_reader.proofs.sections.numbered_at.Given as goal

abbrev pub invariant-loop-at : goal.invariant-loop-at
invariant-loop-at l = HaveNumbered l.read l.count l.at l.rest (numbered_at l.count 1 l.bytes)
