use Rattle.std.proofs.Common.{subst}
use Rattle.square_components.specs.Answers.{AreSquareComponents}
use Rattle.dm_fine.proofs.BlockLemmas.{one_block}
use Rattle.dm_fine.proofs.square.square_blocks.Goals as goal

pub returns-in-One : goal.returns-in-One
returns-in-One g c =
    let one = subst (AreSquareComponents (g.C.ColumnLists.matrix c.args.columns) (g.S.SquarePart.pairs c.args.part)) c.in-One.is c.in_ok-components_by_least_column.ensures in
    one_block _ _ _ one c.requires.square_rows c.requires.square_cols
