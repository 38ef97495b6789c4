use Rattle.std.proofs.Common.{◌∙◌, arith, length-set, subst}
use Rattle.least_match.specs.Tree.{IsIndexed}
use Rattle.least_match.proofs.TreeLemmas.{indexed_pop}
use Rattle.least_match.proofs.tree.Tree.clear.Goals as goal

pub loop-col-preserved : goal.loop-col-preserved
loop-col-preserved c =
    let i = c.loop-col.invariant in record {
      indexed = indexed_pop c.loop-col.self-inside.places.items c.pop.new.self.items c.in-Some.col c.in-Some._parent (subst (λ q. IsIndexed c.loop-col.self-inside.places.items q) c.in-Some.ensures.items i.indexed);
      room = let le = i.room in let same = c.in-Some.ensures.capacity in omega (arith, le, same, length-set c.loop-col.self-inside.places.items c.in-Some.col 4294967295);
      same = length-set c.loop-col.self-inside.places.items c.in-Some.col 4294967295 ∙ i.same;
    }
