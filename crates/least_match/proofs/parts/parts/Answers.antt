use Rattle.std.proofs.Common.{◌+◌, subst, sym}
use Rattle.least_match.proofs.PartLemmas.{ArePartedBelow, parted_more}
use Rattle.least_match.proofs.parts.parts.Goals as goal

pub loop-col-preserved : goal.loop-col-preserved
loop-col-preserved c = subst (ArePartedBelow c.args.pattern.now (c.loop-col.col + 1)) (sym c.in_ok-push.ensures.items) (parted_more _ _ _ _ c.loop-col.invariant c.part_of-part.ensures)
