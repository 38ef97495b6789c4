use Rattle.std.proofs.Common.{sym}
use Rattle.bip_defs.proofs.Sets.{upto_length}
use Rattle.square_components.proofs.part.OfDiagonalSquarePart.len.Goals as goal

pub returns : goal.returns
returns c = sym (upto_length 0 c.args.self.size)
