use Rattle.std.proofs.Common.{arith}
use Rattle.integer_diagonal.proofs.AmountTests.{not_less}
use Rattle.integer_diagonal.proofs.HeapLemmas.{nearest_first}
use Rattle.integer_diagonal.proofs.frontier.begins_below.Goals as goal

pub returns-in-Some-clause-beyond : goal.returns-in-Some-clause-beyond
returns-in-Some-clause-beyond g c = λ not heap e on.
    let low = not_less c.in-Some.nearest.now.0.0 c.args.level c.lt.result c.lt.ensures not in
    let near = nearest_first _ _ (c.in-Some.ensures.greatest heap) e on in
    omega (arith, low, near)
