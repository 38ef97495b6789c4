use Rattle.std.proofs.Common.{sym}
use Rattle.bip_defs.proofs.Pieces.{length-pieces}
use Rattle.sp_pattern.proofs.pattern.Pattern.cols.Goals as goal

pub returns : goal.returns
returns c = rw (c.as_slice.ensures.value, ← c.self.view_is) (sym (length-pieces _ _))
