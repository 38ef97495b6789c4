use Rattle.std.proofs.Common.{inr, subst, sym}
use Rattle.bip_defs.specs.Queues.{at}
use Rattle.bip_defs.proofs.Sets.{col_among, entry_col}
use Rattle.least_match.specs.Trees.{LeadsTo}
use Rattle.least_match.proofs.SearchLemmas.{leads_by}
use Rattle.least_match.proofs.tail.ClassTail.look_forward.Goals as goal

pub has-requires : goal.has-requires
has-requires c = record { col = entry_col _ _ _ (c.requires.can.matching.matching.entries _ _ c.in-Some.ensures.found) }

pub returns-in-Some-enter-clause-found : goal.returns-in-Some-enter-clause-found
returns-in-Some-enter-clause-found c = (c.requires.can.place, c.in-Some-enter.ensures.within, subst (LeadsTo c.args.self.now.pattern.now c.args.matching.now.pairs (at c.args.trees.now.forward.queue c.args.place).0) (sym c.in-Some-enter.ensures.meets) (leads_by _ _ _ _ _ c.requires.can.matching.matching c.in-Some.ensures.found c.requires.entry))

pub returns-in-None-enter-clause-seen : goal.returns-in-None-enter-clause-seen
returns-in-None-enter-clause-seen c = (c.in-Some.next, c.in-Some.ensures.found, inr (c.if-not-has.ensures.yes, col_among _ _ _ c.in-Some.ensures.found, c.in-None-enter.ensures.apart, c.in-None-enter.ensures.entered))
