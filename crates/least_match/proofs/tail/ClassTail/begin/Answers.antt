use Rattle.std.proofs.Common.{◌∙◌, ◌++◌, ◌∷◌, [], ap}
use Rattle.least_match.specs.Tree.{Reached}
use Rattle.least_match.proofs.EndLemmas.{trees_start}
use Rattle.least_match.proofs.tail.ClassTail.begin.Goals as goal

pub returns-clause-trees : goal.returns-clause-trees
returns-clause-trees c = λ m matched own.
    let forward = ap (λ (z : Reached). z.queue) c.push.ensures ∙ ap (λ (z : Reached). z.queue ++ (c.args.first, 0) ∷ []) c.clear.ensures in
    let backward = ap (λ (z : Reached). z.queue) c.push-2.ensures ∙ ap (λ (z : Reached). z.queue ++ (c.args.self.now.col, 0) ∷ []) c.clear-2.ensures in
    trees_start _ _ _ _ _ _ _ forward backward c.requires.first c.requires.behind matched own
