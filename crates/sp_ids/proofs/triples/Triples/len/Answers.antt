use Rattle.std.proofs.Common.{rules}
use Rattle.sp_ids.proofs.Kept.{length-items_of}
use Rattle.sp_ids.proofs.triples.Triples.len.Goals as goal

pub returns : goal.returns
returns c = rw (← c.self.view_is) (rw length-items_of (search rules))
