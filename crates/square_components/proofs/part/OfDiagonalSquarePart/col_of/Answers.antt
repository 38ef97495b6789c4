use Rattle.square_components.proofs.PartLemmas.{diagonal_rows, on_diagonal}
use Rattle.square_components.proofs.part.OfDiagonalSquarePart.col_of.Goals as goal

pub returns : goal.returns
returns c = rw c.row.view_is (on_diagonal c.args.self.size c.args.row (diagonal_rows c.args.self.size c.args.row c.requires))
