use Rattle.least_match.specs.Ahead.{AreFirstCols}
use Rattle.least_match.proofs.tail.ClassTail.first_cols.Given as goal

abbrev pub invariant-loop-next : goal.invariant-loop-next
invariant-loop-next l = AreFirstCols l.self.pattern.now l.entries
