-- Pairs of all rows and columns of a square matrix.
use Rattle.std.proofs.Common.{◌≡◌, ◌∙◌, ℕ, ◌<◌, ◌≤◌, List, [], length, sym, subst, arith}
use Rattle.std.proofs.lemmas.List.{length-map}
use Rattle.bip_defs.specs.Lists.{Among, AreDistinct, Lists}
use Rattle.bip_defs.specs.Matching.{IsMatching, cols_of}
use Rattle.bip_defs.specs.Matrix.{Matrix, Place, cols, upto}
use Rattle.bip_defs.specs.Once.{ListsOnce}
use Rattle.bip_defs.specs.Parts.{ArePartsOf, IsHorizontalCol, IsHorizontalRow, IsSquareCol, IsSquareRow, IsVerticalCol, IsVerticalRow}
use Rattle.bip_defs.proofs.Full.{all_below, few_below, full_maximum, has_all_cols, has_all_rows}
use Rattle.bip_defs.proofs.Sets.{col_among, few_distinct, lists_same, rising_distinct, row_among, upto_length, upto_lists, upto_rising}
use Rattle.bip_graph.specs.Matching.{IsMaximumOf, Pairing}
use Rattle.filled_columns.specs.Filled.{IsFullPairing, all_square, filled}
use Rattle.filled_columns.proofs.FilledMatrices.{AreInside, filled_cols, filled_new, filled_rows}

-- as many numbers as stand below n
module _ (n : ℕ) (xs : List ℕ) (k : ListsOnce (λ x. x < n) xs) where
  pub once_length : length xs ≡ n
  once_length =
      let most = few_below n xs k.distinct k.sound in
      let least = few_distinct (upto n) xs (rising_distinct (upto n) (upto_rising 0 n)) (λ x h. k.complete x ((upto_lists n).sound x h)) in
      let long = upto_length 0 n in
      omega (arith, most, least, long)

-- distinct numbers below n, as many as n
pub once_from : (n : ℕ) (xs : List ℕ) → AreDistinct xs → ((x : ℕ) → Among x xs → x < n) → n ≤ length xs → ListsOnce (λ x. x < n) xs
once_from n xs differ below many = record { distinct = differ; sound = below; complete = all_below n xs differ below many }

inside : (a : Matrix) (m : Pairing) → IsFullPairing a m → AreInside a m.pairs
inside a m k r c h = (k.rows.sound r (row_among r c m.pairs h), k.columns.sound c (col_among r c m.pairs h))

pairs_count : (a : Matrix) (m : Pairing) → IsFullPairing a m → length m.pairs ≡ cols a
pairs_count a m k = sym (length-map m.pairs (λ (p : Place). p.1)) ∙ once_length (cols a) (cols_of m.pairs) k.columns

matching_is : (a : Matrix) (m : Pairing) → IsFullPairing a m → IsMatching (filled a m.pairs) m.pairs
matching_is a m k = record { entries = λ r c h. filled_new a m.pairs (inside a m k) r c h; rows_differ = k.rows.distinct; cols_differ = k.columns.distinct }

pub full_is_maximum : (a : Matrix) (m : Pairing) → IsFullPairing a m → IsMaximumOf (filled a m.pairs) m
full_is_maximum a m k = record {
  matching = record { rows = k.rows_are ∙ sym (filled_rows a m.pairs); cols = k.cols_are ∙ sym (filled_cols a m.pairs); matching = matching_is a m k };
  maximum = full_maximum (filled a m.pairs) m.pairs (matching_is a m k) (pairs_count a m k ∙ sym (filled_cols a m.pairs));
}

-- The parts of a matrix with a matching of all rows and columns.
module _ (a : Matrix) (m : List Place) (n : ℕ) (k : IsMatching a m) (long : length m ≡ n) (rows : a.rows ≡ n) (columns : cols a ≡ n) where
  no_horizontal : (c : ℕ) → ¬ IsHorizontalCol a c
  no_horizontal c h = h.3 (has_all_cols a h.1 h.2.matching (let least = h.2.longest m k in omega (arith, long, columns, least)) c h.0)

  no_vertical : (r : ℕ) → ¬ IsVerticalRow a r
  no_vertical r v = v.3 (has_all_rows a v.1 v.2.matching (let least = v.2.longest m k in omega (arith, long, rows, least)) r v.0)

  square_row : (r : ℕ) → r < n → IsSquareRow a r
  square_row r lt = (rw rows lt, λ h. no_horizontal h.0 h.1, no_vertical r)

  square_col : (c : ℕ) → c < n → IsSquareCol a c
  square_col c lt = (rw columns lt, no_horizontal c, λ v. no_vertical v.0 v.1)

  pub parts_are : ArePartsOf a (all_square n)
  parts_are = record {
    horizontal_rows = no_list (IsHorizontalRow a) (λ r h. no_horizontal h.0 h.1);
    horizontal_cols = no_list (IsHorizontalCol a) no_horizontal;
    square_rows = lists_same (λ r. r < n) (IsSquareRow a) (upto n) square_row (λ r s. subst (λ z. r < z) rows s.0) (upto_lists n);
    square_cols = lists_same (λ c. c < n) (IsSquareCol a) (upto n) square_col (λ c s. subst (λ z. c < z) columns s.0) (upto_lists n);
    vertical_rows = no_list (IsVerticalRow a) no_vertical;
    vertical_cols = no_list (IsVerticalCol a) (λ c v. no_vertical v.0 v.1);
  }
    where
      -- the empty list of what there is none of
      no_list : (P : ℕ → Type 0) → ((x : ℕ) → ¬ P x) → Lists P []
      no_list P none = record { rising = tt; sound = λ x h. elim h [ ]; complete = λ x p. none x p }

pub filled_parts : (a : Matrix) (m : Pairing) → IsFullPairing a m → ArePartsOf (filled a m.pairs) (all_square a.rows)
filled_parts a m k = parts_are (filled a m.pairs) m.pairs a.rows (matching_is a m k) (pairs_count a m k ∙ sym k.square) (filled_rows a m.pairs) (filled_cols a m.pairs ∙ sym k.square)
