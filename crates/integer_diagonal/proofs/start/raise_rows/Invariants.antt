use Rattle.integer_diagonal.proofs.StartLemmas.{AreRaisedIn}
use Rattle.integer_diagonal.proofs.start.raise_rows.Given as goal

abbrev pub invariant-loop-k : goal.invariant-loop-k
invariant-loop-k g l = AreRaisedIn l.fn.weights l.fn.top l.fn.col l.k l.dual l.rows l.fn.prices l.prices
