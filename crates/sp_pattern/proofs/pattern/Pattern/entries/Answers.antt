use Rattle.std.proofs.Common.{sym}
use Rattle.sp_pattern.proofs.Shape.{orders_entries}
use Rattle.sp_pattern.proofs.pattern.Pattern.entries.Goals as goal

pub returns : goal.returns
returns c = rw (c.as_slice.ensures.value, ← c.self.view_is) (sym (orders_entries _ _ _ _ c.self.invariant))
