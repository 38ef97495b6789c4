use Rattle.std.proofs.Common.{arith}
use Rattle.integer_diagonal.proofs.side.VertexSide.mate.Goals as goal

pub returns-in-Some : goal.returns-in-Some
returns-in-Some c = let lt = c.is_matching.ensures.rows_within _ _ c.in-Some.ensures.found in omega (arith, lt, c.row.view_is)

pub returns-in-Some-col_of : goal.returns-in-Some-col_of
returns-in-Some-col_of c = let lt = c.is_matching.ensures.cols_within _ _ c.in-Some-col_of.ensures.found in omega (arith, lt, c.requires.square, c.col.view_is)
