use Rattle.std.proofs.Common.{inr, subst, sym}
use Rattle.bip_defs.specs.Queues.{at}
use Rattle.bip_defs.proofs.Sets.{col_among}
use Rattle.least_match.specs.Trees.{LeadsTo}
use Rattle.least_match.proofs.tail.ClassTail.look_back.Goals as goal

pub returns-in-Some-enter-clause-found : goal.returns-in-Some-enter-clause-found
returns-in-Some-enter-clause-found c = (c.in-Some-enter.ensures.within, c.requires.can.place, subst (λ x. LeadsTo c.args.self.now.pattern.now c.args.matching.now.pairs x (at c.args.trees.now.backward.queue c.args.place).0) (sym c.in-Some-enter.ensures.meets) c.requires.leads)

pub returns-in-None-enter-clause-seen : goal.returns-in-None-enter-clause-seen
returns-in-None-enter-clause-seen c = inr (c.if-not-has.ensures.yes, col_among _ _ _ c.in-Some.ensures.found, c.in-None-enter.ensures.apart, c.in-None-enter.ensures.entered)
