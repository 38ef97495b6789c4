-- The text of a perfect matching whose least weight is greatest, or of why there is none.
use Rattle.std.specs.Prelude.{ℕ, List, [], ◌∷◌, ◌++◌, length, map, codes}
use Rattle.bip_defs.specs.Bottleneck.{above}
use Rattle.bip_defs.specs.Matrix.{AreEntries, Matrix, Place, neighbours}
use Rattle.bip_graph.specs.Texts.{TextLine, counted, end_line, line, text_of}
use Rattle.bip_graph.specs.declared.answers.Bottleneck.{Bottleneck}
use Rattle.bip_graph.specs.declared.answers.Bottleneck.TheVariants.{Best, Rectangular, Singular}
use Rattle.btf_text.specs.Diagonals.{entry_line, rectangular_line, singular_lines}
use Rattle.sp_pattern.specs.Weights.{Weighing, weight_at}

-- the matrix with the entries alone whose weight is greater than a number
abbrev pub entries_above : Weighing → ℕ → Matrix
entries_above w least = above w.matrix (weight_at w) least

-- the number of pairs and the least of their weights, the pairs, and columns with the rows that have an entry in one of them
-- whose weight is greater
abbrev pub best_lines : Weighing → List Place → ℕ → List ℕ → List TextLine
best_lines w pairs least hall =
    line (codes "bottleneck") (length pairs ∷ least ∷ [])
    ∷ map (entry_line w) pairs
    ++ line (codes "above_rows") (counted (neighbours (entries_above w least) hall))
    ∷ line (codes "above_columns") (counted hall)
    ∷ end_line
    ∷ []

abbrev pub bottleneck_lines : Weighing → Bottleneck → List TextLine
bottleneck_lines w Rectangular = rectangular_line w.matrix ∷ []
bottleneck_lines w (Singular rank hall) = singular_lines w.matrix rank hall.items
bottleneck_lines w (Best pairs least hall) = best_lines w pairs.items least hall.items

abbrev pub bottleneck_text : Weighing → Bottleneck → List ℕ
bottleneck_text w answer = text_of (bottleneck_lines w answer)

-- the pairs are entries of the matrix
abbrev pub BestPairsAreEntries : Matrix → Bottleneck → Type 0
BestPairsAreEntries a Rectangular = Unit {0}
BestPairsAreEntries a (Singular rank hall) = Unit {0}
BestPairsAreEntries a (Best pairs least hall) = AreEntries a pairs.items
