use Rattle.std.proofs.Common.{◌++◌, take}
use Rattle.flip_words.specs.OpenedBoards.{AreLaid}
use Rattle.flip_words.proofs.opening.lay_words.Given as goal

abbrev pub invariant-loop-row : goal.invariant-loop-row
invariant-loop-row l = AreLaid l.matching (take l.row l.row_tree) l.words.items

abbrev pub invariant-loop-col : goal.invariant-loop-col
invariant-loop-col l = AreLaid l.matching (l.row_tree ++ take l.col l.col_tree) l.words.items
