use Rattle.square_components.proofs.PartLemmas.{diagonal_part}
use Rattle.std.proofs.Common.{arith}
use Rattle.square_components.proofs.part.OfDiagonal.is_square_part.Goals as goal

pub returns : goal.returns
returns c = λ a rows columns entries. diagonal_part a c.args.self.size rows columns entries (omega arith)
