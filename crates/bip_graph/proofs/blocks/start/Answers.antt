use Rattle.std.proofs.Common.{sym, arith}
use Rattle.bip_graph.proofs.Ends.{end_within, first_start, start_before_at}
use Rattle.bip_graph.proofs.blocks.start.Goals as goal

pub returns-then-at-eq0-clause-start : goal.returns-then-at-eq0-clause-start
returns-then-at-eq0-clause-start c = sym (first_start 0 c.args.ends.now c.args.at c.if-at-eq0.true)

pub returns-then-at-eq0-clause-within : goal.returns-then-at-eq0-clause-within
returns-then-at-eq0-clause-within c = (end_within 0 c.args.ends.now c.args.long c.args.at c.requires.ends c.requires.at).1

pub returns-else-at-eq0-clause-start : goal.returns-else-at-eq0-clause-start
returns-else-at-eq0-clause-start c = sym (start_before_at 0 c.args.ends.now c.args.at c.if-at-eq0.false c.requires.at)

pub returns-else-at-eq0-clause-rises : goal.returns-else-at-eq0-clause-rises
returns-else-at-eq0-clause-rises c = let within = end_within 0 c.args.ends.now c.args.long c.args.at c.requires.ends c.requires.at in omega (arith, within.0, start_before_at 0 c.args.ends.now c.args.at c.if-at-eq0.false c.requires.at)

pub returns-else-at-eq0-clause-within : goal.returns-else-at-eq0-clause-within
returns-else-at-eq0-clause-within c = (end_within 0 c.args.ends.now c.args.long c.args.at c.requires.ends c.requires.at).1
