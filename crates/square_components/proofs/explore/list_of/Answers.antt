use Rattle.std.proofs.Common.{◌∙◌, ap, sym}
use Rattle.bip_defs.proofs.Square.{square_row_mate, square_row_matched}
use Rattle.square_components.proofs.GraphLemmas.{col_in_is}
use Rattle.square_components.proofs.explore.list_of.Goals as goal

pub col_of-requires : goal.col_of-requires
col_of-requires g c = square_row_matched _ _ _ c.requires.part.maximum c.requires.square

pub rows_of-requires : goal.rows_of-requires
rows_of-requires g c = (square_row_mate _ _ _ _ c.requires.part.maximum c.col_of.ensures c.requires.square).0

pub returns : goal.returns
returns g c = c.rows_of.ensures ∙ ap (g.C.ColumnLists.listed c.args.columns) (sym (col_in_is (g.S.SquarePart.pairs c.args.part) c.args.row c.col_of.result c.requires.part.maximum.matching.rows_differ c.col_of.ensures))
