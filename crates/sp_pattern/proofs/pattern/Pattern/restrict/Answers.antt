use Rattle.std.proofs.lemmas.Result.{IfOk-weaker}
use Rattle.sp_pattern.proofs.RestrictLemmas.{restricted_from}
use Rattle.sp_pattern.proofs.pattern.Pattern.restrict.Goals as goal

pub returns : goal.returns
returns g c = IfOk-weaker c.from_column_order.result _ _ (λ b h passes decides. restricted_from c.args.self.now b (g.C.Choice.takes c.args.choice.now) passes _ _ _ _ c.is_pattern.ensures.columns c.in_ok-starts.ensures c.rows.ensures c.cols.ensures h decides) c.from_column_order.ensures.places
