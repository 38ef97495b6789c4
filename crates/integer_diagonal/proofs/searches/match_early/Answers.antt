use Rattle.std.proofs.Common.{◌∙◌}
use Rattle.integer_diagonal.proofs.searches.match_early.Goals as goal

pub loop-col-preserved : goal.loop-col-preserved
loop-col-preserved g c = record { mated = c.in_ok-match_one.ensures.mated; top = c.in_ok-match_one.ensures.top ∙ c.loop-col.invariant.top }
