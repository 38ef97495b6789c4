use Rattle.std.proofs.Common.{rules}
use Rattle.sp_ids.proofs.Kept.{places-items_of}
use Rattle.sp_ids.proofs.triples.Triples.places.Goals as goal

pub returns-clause-places : goal.returns-clause-places
returns-clause-places c = rw (← c.self.view_is, places-items_of) (search rules)
