use Rattle.std.proofs.Common.{inl, refl, subst}
use Rattle.bip_defs.specs.Lists.{Among}
use Rattle.bip_defs.specs.Queues.{heads}
use Rattle.bip_defs.proofs.Queues.{head_at}
use Rattle.least_match.proofs.search.enter.Goals as goal

pub returns-in-Some-place_of-clause-entered : goal.returns-in-Some-place_of-clause-entered
returns-in-Some-place_of-clause-entered c = inl (subst (λ x. Among x (heads c.args.tree.now.queue)) c.in-Some-place_of.ensures.at (head_at c.args.tree.now.queue c.in-Some-place_of.field-0 c.in-Some-place_of.ensures.within), refl)
