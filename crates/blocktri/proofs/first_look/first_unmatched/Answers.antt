use Rattle.blocktri.proofs.LookLemmas.{read_part}
use Rattle.blocktri.proofs.first_look.first_unmatched.Goals as goal

pub returns-then-is_none-clause-given : goal.returns-then-is_none-clause-given
returns-then-is_none-clause-given g c = rw c.at.ensures (read_part (g.N.NumberList.numbers c.args.ids) c.args.from c.args.to c.loop-at.at c.loop-at.invariant c.loop-at-test.true c.requires.to)
