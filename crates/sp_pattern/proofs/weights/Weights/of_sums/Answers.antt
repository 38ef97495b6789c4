use Rattle.sp_pattern.proofs.SumLemmas.{first_past, weights_made}
use Rattle.sp_pattern.proofs.weights.Weights.of_sums.Goals as goal

pub returns-in-Some-clause-refused : goal.returns-in-Some-clause-refused
returns-in-Some-clause-refused c = λ t s.
    first_past t c.args.pattern.now c.args.sums.now c.in-Some.at c.place_at-row.result.0 c.place_at-row.result.1 (λ d. (c.is_pattern.ensures.columns d).rising) s
    c.in-Some.ensures.found.1 c.in-Some.ensures.first c.place_at-row.ensures.entry c.place_at-row.ensures.place

pub returns-clause-weights : goal.returns-clause-weights
returns-clause-weights c = λ t s.
    weights_made t c.args.pattern.now c.args.sums.now c.in-Ok.weights.items s c.in_default.ensures.none c.in-Ok.ensures
