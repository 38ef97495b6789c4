use Rattle.least_match.specs.Ahead.{AreFirstRows}
use Rattle.least_match.proofs.tail.ClassTail.first_rows.Given as goal

abbrev pub invariant-loop-next : goal.invariant-loop-next
invariant-loop-next l = AreFirstRows l.self.pattern.now l.entries
