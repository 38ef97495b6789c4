-- Marks of one side of an outer part.
use Rattle.bip_defs.specs.Matrix.{Matrix}
use Rattle.bip_defs.specs.Parts.{MarkHorizontalRows, MarkVerticalCols}
use Rattle.bip_graph.specs.declared.outer_marks.OuterMarks.{OuterMarks}
use Rattle.bip_graph.specs.declared.outer_marks.OuterMarks.TheVariants.{HorizontalRows, VerticalCols}

-- exactly the horizontal rows of the matrix are marked, or exactly its vertical columns
abbrev pub AreOuterMarks : Matrix → OuterMarks → Type 0
AreOuterMarks a (HorizontalRows marks) = MarkHorizontalRows a marks.items
AreOuterMarks a (VerticalCols marks) = MarkVerticalCols a marks.items
