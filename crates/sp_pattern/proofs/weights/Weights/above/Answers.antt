use Rattle.std.proofs.Common.{◌∙◌, nat_lt, sym, ap}
use Rattle.std.proofs.lemmas.Result.{IfOk-weaker}
use Rattle.bip_defs.specs.Bottleneck.{restricted}
use Rattle.bip_defs.specs.Matrix.{Matrix}
use Rattle.sp_pattern.specs.Weights.{weight_at}
use Rattle.sp_pattern.proofs.RestrictLemmas.{weights_decide}
use Rattle.sp_pattern.proofs.weights.Weights.above.Goals as goal

pub returns : goal.returns
returns c = IfOk-weaker c.restrict.result _ _ (λ b h. h (λ s d. nat_lt c.args.least (weight_at c.args.self.now s d)) (weights_decide c.args.self.now c.pattern.result.now c.args.least c.weights-weights.result.now (sym c.pattern.ensures) c.weights-weights.ensures.weights) ∙ ap (λ (a : Matrix). restricted a (λ s d. nat_lt c.args.least (weight_at c.args.self.now s d))) c.pattern.ensures) c.restrict.ensures
