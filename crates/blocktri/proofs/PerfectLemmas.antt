-- Square matrices with a perfect matching.
use Rattle.std.proofs.Common.{◌≡◌, ◌∙◌, ℕ, ◌<◌, ◌≤◌, List, [], ap, arith, length, subst, sym}
use Rattle.std.proofs.lemmas.List.{length-map}
use Rattle.bip_defs.specs.Blocks.{Block, ColAt, RowAt, Vertex}
use Rattle.bip_defs.specs.Bottleneck.{IsFull}
use Rattle.bip_defs.specs.ConnectedComponents.{AreConnectedComponents, AreOrderedComponents, IsHorizontalVertex, IsVerticalVertex, least_row}
use Rattle.bip_defs.specs.Blocks.{least_col}
use Rattle.bip_defs.specs.Lists.{Lists}
use Rattle.bip_defs.specs.Matching.{IsMaximum, rows_of}
use Rattle.bip_defs.specs.Matrix.{Matrix, Place, cols, upto}
use Rattle.bip_defs.specs.Parts.{ArePartsOf, IsHorizontalCol, IsHorizontalRow, IsSquareCol, IsSquareRow, IsVerticalCol, IsVerticalRow, Parts}
use Rattle.bip_defs.proofs.BottleneckLemmas.{full_length}
use Rattle.bip_defs.proofs.Full.{full_maximum, has_all_cols, has_all_rows, matching_few}
use Rattle.bip_defs.proofs.FullMatchings.{long_full}
use Rattle.bip_defs.proofs.Sets.{few_distinct, lists_same, rising_distinct, upto_length, upto_lists, upto_rising}
use Rattle.bip_graph.specs.Matching.{Pairing}
use Rattle.blocktri.specs.PerfectMatchings.{IsPerfectMatching}

-- a perfect matching has at least as many pairs as there are rows, and as there are columns
pub full_rows : (a : Matrix) (m : List Place) → IsFull a m → a.rows ≤ length m
full_rows a m full =
    let few = few_distinct (upto a.rows) (rows_of m) (rising_distinct (upto a.rows) (upto_rising 0 a.rows)) (λ r h. full.all_rows r ((upto_lists a.rows).sound r h)) in
    let long = upto_length 0 a.rows in
    let same = length-map m (λ (p : Place). p.0) in
    omega (arith, few, long, same)

-- so it is maximum
pub full_is_maximum : (a : Matrix) (m : List Place) → IsFull a m → IsMaximum a m
full_is_maximum a m full =
    let columns = full_length a m full in
    let few = matching_few a m full.matching in
    full_maximum a m full.matching (omega (arith, columns, few))

-- a perfect matching covers all rows and columns
pub perfect_full : (a : Matrix) (m : Pairing) → IsPerfectMatching a m → IsFull a m.pairs
perfect_full a m is =
    let square = is.square in
    let full = is.full in
    long_full a m.pairs square is.maximum.maximum.matching (omega (arith, square, full))

-- No row and no column is outside the square part.

module _ (a : Matrix) (m : List Place) (full : IsFull a m) where
  -- a matching that covers all has as many pairs as each maximum one, so these cover all too
  pub no_horizontal_col : (c : ℕ) → ¬ IsHorizontalCol a c
  no_horizontal_col c h = let (lt, o, most, missed) = h in let longest = most.longest m full.matching in let columns = full_length a m full in missed (has_all_cols a o most.matching (omega (arith, columns, longest)) c lt)

  pub no_vertical_row : (r : ℕ) → ¬ IsVerticalRow a r
  no_vertical_row r v = let (lt, o, most, missed) = v in let longest = most.longest m full.matching in let rows = full_rows a m full in missed (has_all_rows a o most.matching (omega (arith, rows, longest)) r lt)

  no_horizontal_row : (r : ℕ) → ¬ IsHorizontalRow a r
  no_horizontal_row r h = let (c, column, e) = h in no_horizontal_col c column

  no_vertical_col : (c : ℕ) → ¬ IsVerticalCol a c
  no_vertical_col c v = let (r, row, e) = v in no_vertical_row r row

  pub square_row : (r : ℕ) → r < a.rows → IsSquareRow a r
  square_row r lt = (lt, no_horizontal_row r, no_vertical_row r)

  pub square_col : (c : ℕ) → c < cols a → IsSquareCol a c
  square_col c lt = (lt, no_horizontal_col c, no_vertical_col c)

-- the empty list is that of the numbers that have what none has
lists_none : (P : ℕ → Type 0) (xs : List ℕ) → xs ≡ [] → ((x : ℕ) → ¬ P x) → Lists P xs
lists_none P xs empty not = subst (Lists P) (sym empty) (record { rising = tt; sound = λ x h. elim h [ ]; complete = λ x p. absurd (not x p) })

-- all numbers below n are listed
lists_all : (P : ℕ → Type 0) (n k : ℕ) (xs : List ℕ) → xs ≡ upto k → k ≡ n → ((x : ℕ) → P x → x < n) → ((x : ℕ) → x < n → P x) → Lists P xs
lists_all P n k xs are same below all = subst (Lists P) (sym (are ∙ ap upto same)) (lists_same (λ x. x < n) P (upto n) all below (upto_lists n))

-- the parts: all rows and all columns are square
pub full_parts : (a : Matrix) (m : List Place) (p : Parts) (rows columns : ℕ) → IsFull a m → rows ≡ a.rows → columns ≡ cols a → p.square_rows ≡ upto rows → p.square_cols ≡ upto columns
    → p.horizontal_rows ≡ [] → p.horizontal_cols ≡ [] → p.vertical_rows ≡ [] → p.vertical_cols ≡ [] → ArePartsOf a p
full_parts a m p rows columns full high broad sr sc hr hc vr vc = record {
  horizontal_rows = lists_none (IsHorizontalRow a) p.horizontal_rows hr (no_horizontal_row a m full);
  horizontal_cols = lists_none (IsHorizontalCol a) p.horizontal_cols hc (no_horizontal_col a m full);
  square_rows = lists_all (IsSquareRow a) a.rows rows p.square_rows sr high (λ r h. h.0) (square_row a m full);
  square_cols = lists_all (IsSquareCol a) (cols a) columns p.square_cols sc broad (λ c h. h.0) (square_col a m full);
  vertical_rows = lists_none (IsVerticalRow a) p.vertical_rows vr (no_vertical_row a m full);
  vertical_cols = lists_none (IsVerticalCol a) p.vertical_cols vc (no_vertical_col a m full);
}

pub perfect_parts : (a : Matrix) (m : Pairing) (p : Parts) (rows columns : ℕ) → IsPerfectMatching a m → rows ≡ a.rows → columns ≡ cols a → p.square_rows ≡ upto rows → p.square_cols ≡ upto columns
    → p.horizontal_rows ≡ [] → p.horizontal_cols ≡ [] → p.vertical_rows ≡ [] → p.vertical_cols ≡ [] → ArePartsOf a p
perfect_parts a m p rows columns is = full_parts a m.pairs p rows columns (perfect_full a m is)

-- No components are outside it.

no_vertex : (R C : ℕ → Type 0) (P : Vertex → Type 0) → ((r : ℕ) → P (RowAt r) → R r) → ((c : ℕ) → P (ColAt c) → C c) → ((r : ℕ) → ¬ R r) → ((c : ℕ) → ¬ C c) → (v : Vertex) → ¬ P v
no_vertex R C P row col no_row no_col (RowAt r) h = no_row r (row r h)
no_vertex R C P row col no_row no_col (ColAt c) h = no_col c (col c h)

ordered_none : (a : Matrix) (P : Vertex → Type 0) (least : Block → ℕ) (bs : List Block) → bs ≡ [] → ((v : Vertex) → ¬ P v) → AreOrderedComponents a P least bs
ordered_none a P least bs empty not = subst (AreOrderedComponents a P least) (sym empty) (record { sound = λ b h. elim h [ ]; complete = λ b is. let (v, component) = is in absurd (not v component.inside); rising = tt })

pub perfect_components : (a : Matrix) (m : Pairing) (bs ds : List Block) → IsPerfectMatching a m → bs ≡ [] → ds ≡ [] → AreConnectedComponents a (record { horizontal = bs; vertical = ds })
perfect_components a m bs ds is none empty =
    let full = perfect_full a m is in record {
      horizontal = ordered_none a (IsHorizontalVertex a) least_col bs none (no_vertex (IsHorizontalRow a) (IsHorizontalCol a) (IsHorizontalVertex a) (λ r h. h) (λ c h. h) (no_horizontal_row a m.pairs full) (no_horizontal_col a m.pairs full));
      vertical = ordered_none a (IsVerticalVertex a) least_row ds empty (no_vertex (IsVerticalRow a) (IsVerticalCol a) (IsVerticalVertex a) (λ r h. h) (λ c h. h) (no_vertical_row a m.pairs full) (no_vertical_col a m.pairs full));
    }
