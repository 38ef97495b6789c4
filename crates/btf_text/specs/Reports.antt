-- What is written of a decomposition: its report, and its summary.
use Rattle.std.specs.Prelude.{ℕ, Bool, List, [], ◌∷◌, ◌++◌, length, Option, None, Some, codes}
use Rattle.bip_defs.specs.ConnectedComponents as connected
use Rattle.bip_defs.specs.Matrix.{Place}
use Rattle.bip_graph.specs.Answers.{orders_of, where_asked}
use Rattle.bip_graph.specs.Decompositions.{components_of, decomposition_of}
use Rattle.bip_graph.specs.Texts.{Report, Sizes, TextLine, horizontal_components, line, matrix_line, part, rank_line, square_line, square_lines, text_of, vertical_components}
use Rattle.bip_graph.specs.declared.answers.Components.{Components}
use Rattle.bip_graph.specs.declared.answers.Decomposition.{Decomposition}

abbrev pub sizes_in : Decomposition → Sizes
sizes_in d = record { rows = d.m; cols = d.n; entries = d.e }

-- the components, where there are any
abbrev pub components_in : Option Components → Option connected.Components
components_in None = None
components_in (Some c) = Some (components_of c)

-- all of it under these sizes, these components, the orders where they are asked for, and these pairs
abbrev pub report_with : Sizes → Decomposition → Option connected.Components → Bool
    → Option (List Place) → Report
report_with sizes d components order pairs = record {
  sizes = sizes;
  rank = d.rank;
  components = components;
  horizontal_rows = d.parts.hr.items;
  horizontal_cols = d.parts.hc.items;
  blocks = d.blocks;
  vertical_rows = d.parts.vr.items;
  vertical_cols = d.parts.vc.items;
  orders = where_asked order (orders_of (decomposition_of d));
  pairs = pairs;
}

-- all of it under its own sizes
abbrev pub reported : Decomposition → Option connected.Components → Bool → Option (List Place)
    → Report
reported d = report_with (sizes_in d) d

-- the lists of the parts, the components and the blocks
abbrev pub part_lines : Decomposition → Option connected.Components → List TextLine
part_lines d components =
    part (codes "horizontal") d.parts.hr.items d.parts.hc.items
    ++ horizontal_components components
    ++ square_lines d.blocks
    ++ part (codes "vertical") d.parts.vr.items d.parts.vc.items
    ++ vertical_components components

-- the lengths of two lists
abbrev pub lengths_line : List ℕ → List ℕ → List ℕ → TextLine
lengths_line word rows cols = line word (length rows ∷ length cols ∷ [])

-- five lines: sizes alone
abbrev pub summary_lines : Decomposition → List TextLine
summary_lines d =
    matrix_line (sizes_in d)
    ∷ rank_line d.rank
    ∷ lengths_line (codes "horizontal") d.parts.hr.items d.parts.hc.items
    ∷ square_line d.blocks
    ∷ lengths_line (codes "vertical") d.parts.vr.items d.parts.vc.items
    ∷ []

abbrev pub summary_text : Decomposition → List ℕ
summary_text d = text_of (summary_lines d)
