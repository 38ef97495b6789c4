use Rattle.mm_reader.proofs.AfterLaws.{at_start}
use Rattle.mm_reader.proofs.machine.start.Goals as goal

pub returns-clause-stands : goal.returns-clause-stands
returns-clause-stands c end = at_start end c.in_ok-triples.triples c.new-2.result c.new-2.ensures
