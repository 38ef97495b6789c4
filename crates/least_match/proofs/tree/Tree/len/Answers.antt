use Rattle.std.proofs.Common.{◌≡◌, length, rules, subst, arith}
use Rattle.bip_defs.specs.Lists.{AreDistinct}
use Rattle.bip_defs.specs.Queues.{heads}
use Rattle.least_match.specs.Tree.{Reached}
use Rattle.least_match.proofs.TreeLemmas.{indexed_distinct, indexed_few}
use Rattle.least_match.proofs.tree.Tree.len.Goals as goal

pub overflow_cast-result : goal.overflow_cast-result
overflow_cast-result c = let few = indexed_few _ _ c.self.invariant.1 in let le = c.self.invariant.1.few in let same : c.self.inside.queue.len ≡ length c.self.inside.queue.items = search rules in omega (arith, few, le, same)

pub returns-clause-distinct : goal.returns-clause-distinct
returns-clause-distinct c = subst (λ (z : Reached). AreDistinct (heads z.queue)) c.self.view_is (indexed_distinct _ _ c.self.invariant.1)
