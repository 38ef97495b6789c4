use Rattle.square_components.proofs.PartLemmas.{place_is}
use Rattle.square_components.proofs.part.OfPerfectSquarePart.row_at.Goals as goal

pub returns : goal.returns
returns c = place_is c.args.self.matching.now.rows c.args.place c.requires
