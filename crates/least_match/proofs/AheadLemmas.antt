-- First entries that were read before their turn.
use Rattle.std.proofs.Common.{◌≡◌, ◌∙◌, ℕ, ◌<◌, List, length, get_or, ap, sym}
use Rattle.std.proofs.lemmas.List.{get_or_default}
use Rattle.bip_defs.specs.Matrix.{Matrix, Place, column, row_list}
use Rattle.least_match.specs.Ahead.{AreFirstCols, AreFirstRows}

-- what stands at a place that has this column is the column's first row
pub first_row_at : (a : Matrix) (ps : List Place) (k col : ℕ) (d e : Place) (rows : List ℕ) → AreFirstRows a ps → k < length ps → (get_or ps k e).1 ≡ col → rows ≡ column a col → 0 < length rows → (get_or ps k d).0 ≡ get_or rows 0 (get_or ps k d).0
first_row_at a ps k col d e rows first lt is listed some =
    let own : (get_or ps k d).1 ≡ col = ap (λ (p : Place). p.1) (get_or_default ps k d e lt) ∙ is in
    first k d lt ∙ ap (λ c. get_or (column a c) 0 0) own ∙ ap (λ (xs : List ℕ). get_or xs 0 0) (sym listed) ∙ get_or_default rows 0 0 (get_or ps k d).0 some

-- what stands at a place that has this row is the row's first column
pub first_col_at : (a : Matrix) (ps : List Place) (k row : ℕ) (d e : Place) (cols : List ℕ) → AreFirstCols a ps → k < length ps → (get_or ps k e).0 ≡ row → cols ≡ row_list a row → 0 < length cols → (get_or ps k d).1 ≡ get_or cols 0 (get_or ps k d).1
first_col_at a ps k row d e cols first lt is listed some =
    let own : (get_or ps k d).0 ≡ row = ap (λ (p : Place). p.0) (get_or_default ps k d e lt) ∙ is in
    first k d lt ∙ ap (λ r. get_or (row_list a r) 0 0) own ∙ ap (λ (xs : List ℕ). get_or xs 0 0) (sym listed) ∙ get_or_default cols 0 0 (get_or ps k d).1 some
