use Rattle.std.proofs.Common.{arith}
use Rattle.bip_graph.specs.Decompositions.{parts_of}
use Rattle.square_components.proofs.PartLemmas.{listed_part}
use Rattle.square_components.proofs.part.OfParts.is_square_part.Goals as goal

pub returns : goal.returns
returns c = λ a most parts. listed_part a c.args.self.matching.now (parts_of c.args.self.parts.now) most parts (omega arith)
