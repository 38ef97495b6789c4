-- The text of the heaviest diagonal, or of why there is none.
use Rattle.std.specs.Prelude.{ℕ, ℤ, pos, suc, List, [], ◌∷◌, ◌++◌, length, map, codes}
use Rattle.std.specs.Fmt.{decimal, signed_decimal}
use Rattle.std.specs.List.{flat_map}
use Rattle.bip_defs.specs.Matrix.{AreEntries, Matrix, Place, cols, neighbours}
use Rattle.bip_graph.specs.Texts.{TextLine, end_line, line, lists, text_of}
use Rattle.bip_graph.specs.declared.answers.Heaviest.{Heaviest}
use Rattle.bip_graph.specs.declared.answers.Heaviest.TheVariants.{Diagonal, Rectangular, Singular}
use Rattle.sp_pattern.specs.Weights.{Weighing, weight_at}

-- one space and one number each, the numbers below zero with a minus sign
abbrev pub signed_spaced : List ℤ → List ℕ
signed_spaced numbers = flat_map (λ z. 32 ∷ signed_decimal z) numbers

-- a word, and numbers behind it that may be below zero
abbrev pub signed_line : List ℕ → List ℤ → TextLine
signed_line word numbers = line (word ++ signed_spaced numbers) []

-- a row, a column, and the weight of the entry there
abbrev pub entry_line : Weighing → Place → TextLine
entry_line w p = line (decimal (suc p.0)) (suc p.1 ∷ weight_at w p.0 p.1 ∷ [])

abbrev pub rectangular_line : Matrix → TextLine
rectangular_line a = line (codes "rectangular") (a.rows ∷ cols a ∷ [])

-- the rank, columns, and the rows with an entry in one of them
abbrev pub singular_lines : Matrix → ℕ → List ℕ → List TextLine
singular_lines a rank hall = line (codes "singular") (rank ∷ []) ∷ lists (neighbours a hall) hall
    ++ end_line ∷ []

-- the number of pairs and the sum of their weights, the pairs, and the prices by row and by column
abbrev pub weighed_lines : Weighing → List Place → List ℤ → List ℤ → ℤ → List TextLine
weighed_lines w pairs u v sum =
    signed_line (codes "diagonal") (pos (length pairs) ∷ sum ∷ [])
    ∷ map (entry_line w) pairs
    ++ signed_line (codes "row_prices") u
    ∷ signed_line (codes "column_prices") v
    ∷ end_line
    ∷ []

abbrev pub diagonal_lines : Weighing → Heaviest → List TextLine
diagonal_lines w Rectangular = rectangular_line w.matrix ∷ []
diagonal_lines w (Singular rank hall) = singular_lines w.matrix rank hall.items
diagonal_lines w (Diagonal pairs u v sum) = weighed_lines w pairs.items u.items v.items sum

abbrev pub diagonal_text : Weighing → Heaviest → List ℕ
diagonal_text w answer = text_of (diagonal_lines w answer)

-- the pairs of a diagonal are entries of the matrix
abbrev pub PairsAreEntries : Matrix → Heaviest → Type 0
PairsAreEntries a Rectangular = Unit {0}
PairsAreEntries a (Singular rank hall) = Unit {0}
PairsAreEntries a (Diagonal pairs u v sum) = AreEntries a pairs.items
