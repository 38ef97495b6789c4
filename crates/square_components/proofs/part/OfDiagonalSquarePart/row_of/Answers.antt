use Rattle.square_components.proofs.PartLemmas.{diagonal_cols, on_diagonal}
use Rattle.square_components.proofs.part.OfDiagonalSquarePart.row_of.Goals as goal

pub returns : goal.returns
returns c = rw c.col.view_is (on_diagonal c.args.self.size c.args.col (diagonal_cols c.args.self.size c.args.col c.requires))
