use Rattle.std.proofs.Common.{◌∙◌}
use Rattle.claim_words.proofs.Openings.{first_more, others_more}
use Rattle.claim_words.proofs.board.ClaimBoard.seat_all.Goals as goal

pub loop-made-preserved : goal.loop-made-preserved
loop-made-preserved c = record {
  first = first_more _ _ _ _ c.loop-made.invariant.first c.split.ensures.first;
  others = c.in_ok-push.ensures.items ∙ others_more _ _ _ _ c.split.ensures.new c.loop-made.invariant.others;
}
