use Rattle.std.proofs.lemmas.Result.{IfOk-weaker, IfErr-weaker}
use Rattle.sp_pattern.proofs.weights.Weights.build.Goals as goal

pub of_sums-requires : goal.of_sums-requires
of_sums-requires c = rw c.as_slice.ensures.value c.in-Ok.ensures.long

pub returns-clause-weights : goal.returns-clause-weights
returns-clause-weights c = IfOk-weaker c.of_sums.result _ _ (λ w h. h c.args.triples.now (rw c.as_slice.ensures.value c.in-Ok.ensures)) c.of_sums.ensures.weights

pub returns-clause-refused : goal.returns-clause-refused
returns-clause-refused c = IfErr-weaker c.of_sums.result _ _ (λ e h. h c.args.triples.now (rw c.as_slice.ensures.value c.in-Ok.ensures)) c.of_sums.ensures.refused
