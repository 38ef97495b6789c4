use Rattle.std.proofs.Common.{◌≡◌, ◌∙◌, ◌++◌, ◌∷◌, [], length, ap, arith}
use Rattle.integer_diagonal.proofs.RowWeightLemmas.{row_weights_more}
use Rattle.integer_diagonal.proofs.weighted_pattern.WeightedPattern.build.Goals as goal

pub loop-row-preserved : goal.loop-row-preserved
loop-row-preserved c =
    let i = c.loop-row.invariant in
    let size : c.len.result ≡ length c.push_row.new.row_weights.items = omega (arith, c.len.ensures, c.push_row.new.row_weights.ok.0) in
    let starts = c.in_ok-push-2.ensures.items ∙ ap (λ n. c.loop-row.row_starts.items ++ n ∷ []) size in
    let more = row_weights_more c.args.weights.now c.loop-row.row c.loop-row.row_starts.items c.loop-row.row_weights.items c.push-in-loop-row.new.self.items c.push_row.new.row_weights.items i.rows i.last c.in_ok-push_row.ensures.pushed starts in
    record { passed = c.in_ok-push_row.ensures.passed; rows = more.0; last = more.1 }
