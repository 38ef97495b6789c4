use Rattle.square_components.proofs.PartLemmas.{perfect_part}
use Rattle.std.proofs.Common.{arith}
use Rattle.square_components.proofs.part.OfPerfect.is_square_part.Goals as goal

pub returns : goal.returns
returns c = λ a most square size. perfect_part a c.args.self.matching.now most square size (omega arith)
