-- Square parts: from the parts of a matrix, from a perfect matching, from a full diagonal.
use Rattle.std.proofs.Common.{◌≡◌, ◌∙◌, ℕ, zero, suc, ◌+◌, ◌^◌, ◌<◌, List, [], ◌∷◌, length, map, get_or, refl, sym, ap, subst, arith}
use Rattle.bip_defs.specs.Lists.{Among, AreDistinct}
use Rattle.bip_defs.specs.Matching.{IsMatching, IsMaximum, cols_of, rows_of}
use Rattle.bip_defs.specs.Matrix.{IsEntry, Matrix, Place, cols, upto, upto_from}
use Rattle.bip_defs.specs.Parts.{ArePartsOf, IsHorizontalCol, IsSquareCol, IsSquareRow, IsVerticalRow, Parts}
use Rattle.bip_defs.proofs.Counts.{square_count}
use Rattle.bip_defs.proofs.Full.{full_maximum, has_all_cols, has_all_rows}
use Rattle.bip_defs.proofs.Sets.{among_map, among_map_back, col_pair, lists_same, rising_distinct, row_pair, upto_length, upto_lists, upto_mapped, upto_rising}
use Rattle.bip_graph.specs.Matching.{IsMaximumOf, Pairing}
use Rattle.square_components.specs.Part.{IsSquarePart, diagonal}
use Rattle.square_components.proofs.Changes.{rising_few}

-- the square part among the parts
pub listed_part : (a : Matrix) (m : Pairing) (p : Parts) → IsMaximumOf a m → ArePartsOf a p → m.rows < 2 ^ 32 → IsSquarePart a p.square_rows p.square_cols m.pairs
listed_part a m p most parts small = record {
  square_rows = parts.square_rows;
  square_cols = parts.square_cols;
  maximum = most.maximum;
  same = square_count a m.pairs p.square_rows p.square_cols most.maximum parts.square_rows parts.square_cols;
  few =
      let le = rising_few p.square_rows a.rows parts.square_rows.rising (λ r h. (parts.square_rows.sound r h).0) in
      let high = most.matching.rows in
      omega (arith, le, high, small);
}

-- all rows and columns are square where a maximum matching has a pair for each
of_perfect : (a : Matrix) (pairs : List Place) (n k : ℕ) → IsMaximum a pairs → n ≡ a.rows → k ≡ cols a → n ≡ k → n ≡ length pairs → n < 2 ^ 32 → IsSquarePart a (upto n) (upto k) pairs
of_perfect a pairs n k max high broad square full few = record {
  square_rows = lists_same (λ r. r < n) (IsSquareRow a) (upto n) (λ r lt. (omega (arith, lt, high), no_horizontal_row r, no_vertical_row r)) (λ r s. let lt = s.0 in omega (arith, lt, high)) (upto_lists n);
  square_cols = lists_same (λ c. c < k) (IsSquareCol a) (upto k) (λ c lt. (omega (arith, lt, broad), no_horizontal_col c, no_vertical_col c)) (λ c s. let lt = s.0 in omega (arith, lt, broad)) (upto_lists k);
  maximum = max;
  same = upto_length 0 n ∙ square ∙ sym (upto_length 0 k);
  few = let long = upto_length 0 n in omega (arith, long, few);
}
  where
    no_horizontal_col : (c : ℕ) → ¬ IsHorizontalCol a c
    no_horizontal_col c h = let (lt, o, most, missed) = h in let longest = most.longest pairs max.matching in missed (has_all_cols a o most.matching (omega (arith, longest, full, square, broad)) c lt)

    no_vertical_row : (r : ℕ) → ¬ IsVerticalRow a r
    no_vertical_row r v = let (lt, o, most, missed) = v in let longest = most.longest pairs max.matching in missed (has_all_rows a o most.matching (omega (arith, longest, full, high)) r lt)

    no_horizontal_row : (r : ℕ) → ¬ ((c : ℕ) × IsHorizontalCol a c × IsEntry a r c)
    no_horizontal_row r h = no_horizontal_col h.0 h.1

    no_vertical_col : (c : ℕ) → ¬ ((r : ℕ) × IsVerticalRow a r × IsEntry a r c)
    no_vertical_col c v = no_vertical_row v.0 v.1

pub perfect_part : (a : Matrix) (m : Pairing) → IsMaximumOf a m → m.rows ≡ m.cols → m.rows ≡ length m.pairs → m.rows < 2 ^ 32 → IsSquarePart a (upto m.rows) (upto m.cols) m.pairs
perfect_part a m most square full few = of_perfect a m.pairs m.rows m.cols most.maximum most.matching.rows most.matching.cols square full few

-- what stands at a place of the first n numbers
up_at : (k n i : ℕ) → i < n → get_or (upto_from k n) i 0 ≡ k + i
up_at k zero i lt = absurd (omega (arith, lt))
up_at k (suc n) zero lt = omega arith
up_at k (suc n) (suc i) lt = let is = up_at (suc k) n i (omega (arith, lt)) in omega (arith, is)

pub place_is : (n i : ℕ) → i < length (upto n) → i ≡ get_or (upto n) i 0
place_is n i lt = let long = upto_length 0 n in let is = up_at 0 n i (omega (arith, lt, long)) in omega (arith, is)

-- The diagonal.

-- the pairs are those of equal numbers
pub on_diagonal : (n k : ℕ) → k < n → Among (k, k) (diagonal n)
on_diagonal n k lt = among_map (λ (i : ℕ). (i, i)) k (upto n) ((upto_lists n).complete k lt)

diagonal_below : (n r c : ℕ) → Among (r, c) (diagonal n) → (r ≡ c) × (r < n)
diagonal_below n r c h =
    let (k, on, e) = among_map_back (λ (i : ℕ). (i, i)) (r, c) (upto n) h in
    let row : k ≡ r = ap (λ (p : Place). p.0) e in
    let col : k ≡ c = ap (λ (p : Place). p.1) e in
    let lt = (upto_lists n).sound k on in
    (sym row ∙ col, omega (arith, row, lt))

-- its rows and columns are those below n
pub diagonal_rows : (n r : ℕ) → Among r (rows_of (diagonal n)) → r < n
diagonal_rows n r h = let (c, on) = row_pair r (diagonal n) h in (diagonal_below n r c on).1

pub diagonal_cols : (n c : ℕ) → Among c (cols_of (diagonal n)) → c < n
diagonal_cols n c h = let (r, on) = col_pair c (diagonal n) h in let (same, lt) = diagonal_below n r c on in omega (arith, same, lt)

mapped_back : (f : ℕ → Place) (g : Place → ℕ) → ((x : ℕ) → g (f x) ≡ x) → (xs : List ℕ) → map g (map f xs) ≡ xs
mapped_back f g back [] = refl
mapped_back f g back (x ∷ xs) = λ i. back x i ∷ mapped_back f g back xs i

pub diagonal_part : (a : Matrix) (n : ℕ) → a.rows ≡ n → cols a ≡ n → ((k : ℕ) → k < n → IsEntry a k k) → n < 2 ^ 32 → IsSquarePart a (upto n) (upto n) (diagonal n)
diagonal_part a n high broad full few = of_perfect a (diagonal n) n n (full_maximum a (diagonal n) matching (long ∙ sym broad)) (sym high) (sym broad) refl (sym long) few
  where
    long : length (diagonal n) ≡ n
    long = upto_mapped (λ (i : ℕ). (i, i)) n

    differ : AreDistinct (upto n)
    differ = rising_distinct (upto n) (upto_rising 0 n)

    matching : IsMatching a (diagonal n)
    matching = record {
      entries = λ r c h. let (same, lt) = diagonal_below n r c h in subst (IsEntry a r) same (full r lt);
      rows_differ = subst AreDistinct (sym (mapped_back (λ (i : ℕ). (i, i)) (λ (p : Place). p.0) (λ x. refl) (upto n))) differ;
      cols_differ = subst AreDistinct (sym (mapped_back (λ (i : ℕ). (i, i)) (λ (p : Place). p.1) (λ x. refl) (upto n))) differ;
    }
