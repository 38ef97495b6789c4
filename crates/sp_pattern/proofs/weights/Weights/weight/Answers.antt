use Rattle.sp_pattern.proofs.Weighed.{weight_read}
use Rattle.sp_pattern.proofs.weights.Weights.weight.Goals as goal

pub returns : goal.returns
returns c = rw (c.as_slice.ensures.value, c.place_of.ensures.place, ← c.self.view_is) (weight_read _ c.args.row c.args.col (rw (← c.self.view_is) at c.requires))
