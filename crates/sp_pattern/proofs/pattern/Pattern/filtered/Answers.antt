use Rattle.std.proofs.lemmas.Result.{IfOk-weaker}
use Rattle.sp_pattern.proofs.RestrictLemmas.{filtered_from}
use Rattle.sp_pattern.proofs.pattern.Pattern.filtered.Goals as goal

pub returns : goal.returns
returns g c = IfOk-weaker c.from_column_order.result _ _ (λ b h. filtered_from c.args.self.now b (g.F.Filter.keeps c.args.keep.now) _ _ _ _ c.is_pattern.ensures.columns c.in_ok-starts.ensures c.rows.ensures c.cols.ensures h) c.from_column_order.ensures.places
