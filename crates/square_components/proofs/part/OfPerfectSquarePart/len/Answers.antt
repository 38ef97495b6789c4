use Rattle.std.proofs.Common.{◌∙◌, sym}
use Rattle.bip_defs.proofs.Sets.{upto_length}
use Rattle.square_components.proofs.part.OfPerfectSquarePart.len.Goals as goal

pub returns : goal.returns
returns c = c.rows.ensures.count ∙ sym (upto_length 0 c.args.self.matching.now.rows)
