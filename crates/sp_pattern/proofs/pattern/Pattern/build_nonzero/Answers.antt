use Rattle.std.proofs.Common.{nat_lt}
use Rattle.std.proofs.lemmas.Result.{IfOk-weaker}
use Rattle.sp_pattern.specs.Weights.{weight_of}
use Rattle.sp_pattern.proofs.RestrictLemmas.{nonzero_made, sums_decide}
use Rattle.sp_pattern.proofs.pattern.Pattern.build_nonzero.Goals as goal

pub returns : goal.returns
returns g c = IfOk-weaker c.restrict.result _ _ (λ b h. nonzero_made c.args.triples.now _ b c.in_ok-all.ensures (h (λ s d. nat_lt 0 (weight_of c.args.triples.now s d)) (sums_decide c.args.triples.now _ _ _ c.in_ok-sums.ensures c.as_slice.ensures.value))) c.restrict.ensures
