use Rattle.std.proofs.Common.{◌≡◌}
use Rattle.integer_diagonal.proofs.AmountTests.{equal}
use Rattle.integer_diagonal.proofs.Levels.{back_more, near_more}
use Rattle.integer_diagonal.proofs.HeapLemmas.{pushed}
use Rattle.integer_diagonal.proofs.frontier.Frontier.push.Goals as goal

pub returns-then-eq : goal.returns-then-eq
returns-then-eq g c =
    let same : c.args.distance ≡ c.self.inside.level = equal _ _ _ c.eq.ensures c.if-eq.true in
    rw (← c.self.view_is, same) (near_more _ _ _ _ _ c.in_ok-push.ensures.items)

pub returns : goal.returns
returns g c = rw (← c.self.view_is) (back_more _ _ _ _ (pushed _ _ _ c.in_ok-push-2.ensures.permutation))
