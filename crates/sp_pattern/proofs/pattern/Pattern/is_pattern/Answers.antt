use Rattle.sp_pattern.proofs.Shape.{orders_pattern}
use Rattle.sp_pattern.proofs.pattern.Pattern.is_pattern.Goals as goal

pub returns : goal.returns
returns c = rw (← c.self.view_is) (orders_pattern _ _ _ _ c.self.invariant)
