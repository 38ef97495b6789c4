-- The matching of a full diagonal.
use Rattle.std.proofs.Common.{◌≡◌, ◌≢◌, ◌⊎◌, ◌↔◌, ◌∙◌, ℕ, ◌+◌, ◌-◌, ◌<◌, ◌≤◌, List, [], ◌∷◌, length, map, drop, get_or, refl, sym, ap, arith, subst, inl, inr, ⊎_elim}
use Rattle.std.proofs.lemmas.Bool.{cases_lt}
use Rattle.std.proofs.lemmas.List.{get_or-drop, get_or-take, length-drop, length-take}
use Rattle.std.specs.List.{slice_range}
use Rattle.bip_defs.specs.Lists.{Among, AreDistinct}
use Rattle.bip_defs.specs.Matching.{IsMatching, IsMaximum, IsRank, cols_of, rows_of}
use Rattle.bip_defs.specs.Matrix.{IsEntry, Matrix, Place, cols, upto}
use Rattle.bip_defs.proofs.BottleneckLemmas.{full_length}
use Rattle.bip_defs.proofs.Full.{matching_few}
use Rattle.bip_defs.proofs.Sets.{among_map_back, rising_distinct, upto_lists, upto_mapped, upto_rising, col_among, col_pair, entry_col, number_same, place_among, row_among, row_pair}
use Rattle.bip_graph.specs.Matching.{IsMatchingOf, IsMaximumOf, IsPairing, Pairing}
use Rattle.blocktri.specs.Diagonal.{IsDiagonalFull}
use Rattle.square_components.specs.Part.{diagonal}
use Rattle.blocktri.proofs.LookLemmas.{cols_matched_maximum, look_matching, rows_matched_maximum}

-- a number that no place of a part has is not in it
pub not_in_part : (xs : List ℕ) (from to x : ℕ) → to ≤ length xs → ((k : ℕ) → from ≤ k → k < to → get_or xs k 0 ≢ x) → ¬ Among x (slice_range xs from to)
not_in_part xs from to x within differ h =
    let (j, lt, is) = place_among x 0 (slice_range xs from to) h in
    let long : length (slice_range xs from to) ≡ to - from = rw (length-take, length-drop) (omega (arith, within)) in
    differ (from + j) (omega arith) (omega (arith, lt, long)) (sym (get_or-take (to - from) (drop from xs) j 0 (omega (arith, lt, long)) ∙ get_or-drop from xs j 0) ∙ is)

-- Pairs of the diagonal, one by one.

-- the pairs are those of the first places of the diagonal
abbrev pub IsDiagonalBelow : ℕ → List Place → Type 0
IsDiagonalBelow n m = (r c : ℕ) → Among (r, c) m ↔ ((r ≡ c) × (r < n))

-- one more
pub diagonal_more : (old new : List Place) (n : ℕ) → ((p : Place) → Among p new ↔ ((p ≡ (n, n)) ⊎ Among p old)) → IsDiagonalBelow n old → IsDiagonalBelow (n + 1) new
diagonal_more old new n grown before r c = (
  λ (h : Among (r, c) new). ⊎_elim (λ (e : (r, c) ≡ (n, n)). let row = ap (λ (p : Place). p.0) e in let col = ap (λ (p : Place). p.1) e in (omega (arith, row, col), omega (arith, row))) (λ (k : Among (r, c) old). let (same, lt) = (before r c).0 k in (same, omega (arith, lt))) ((grown (r, c)).0 h),
  λ (told : (r ≡ c) × (r < n + 1)). ⊎_elim (λ (e : r ≡ n). (grown (r, c)).1 (inl (let same = told.0 in let col : c ≡ n = omega (arith, same, e) in cc))) (λ (ne : ¬ (r ≡ n)). (grown (r, c)).1 (inr ((before r c).1 (told.0, let lt = told.1 in omega (arith, lt, ne))))) (number_same r n),
)

-- the next row is free
pub next_row_free : (m : List Place) (n : ℕ) → IsDiagonalBelow n m → ¬ Among n (rows_of m)
next_row_free m n is on = let (c, h) = row_pair n m on in let lt = ((is n c).0 h).1 in omega (arith, lt)

-- and so is the next column
pub next_col_free : (m : List Place) (n : ℕ) → IsDiagonalBelow n m → ¬ Among n (cols_of m)
next_col_free m n is on = let (r, h) = col_pair n m on in let (same, lt) = (is r n).0 h in omega (arith, same, lt)

-- The whole diagonal.

-- all its places, where a row and a column have the same number n times
pub diagonal_all : (m : List Place) (n rows columns : ℕ) → ((k : ℕ) → k < n → (k < rows) × (k < columns)) → ((k : ℕ) → k < rows → k < columns → k < n) → IsDiagonalBelow n m → (r c : ℕ) → Among (r, c) m ↔ ((r ≡ c) × (r < rows) × (c < columns))
diagonal_all m n rows columns within all is r c = (
  λ (h : Among (r, c) m). let (same, lt) = (is r c).0 h in let (row, col) = within r lt in (same, row, omega (arith, same, col)),
  λ (told : (r ≡ c) × (r < rows) × (c < columns)). let (same, row, col) = told in (is r c).1 (same, all r row (omega (arith, same, col))),
)

-- a full diagonal that is matched is maximum: each row is matched, or else each column
pub diagonal_maximum : (a : Matrix) (m : Pairing) (x y : ℕ) → x ≡ a.rows → y ≡ cols a → m.rows ≡ x → m.cols ≡ y → ((r c : ℕ) → Among (r, c) m.pairs ↔ ((r ≡ c) × (r < x) × (c < y))) → IsPairing m → IsDiagonalFull a → IsMaximumOf a m
diagonal_maximum a m x y high broad rows columns pairs pairing full = record {
  matching = is;
  maximum = ⊎_elim (λ (wide : x < y). rows_matched_maximum a m.pairs is.matching (λ r c e. let lt = e.0 in row_among r r m.pairs ((pairs r r).1 (refl, omega (arith, lt, high), omega (arith, wide, lt, high)))))
      (λ (tall : y ≤ x). cols_matched_maximum a m.pairs is.matching (λ r c e. let lt = entry_col a r c e in col_among c c m.pairs ((pairs c c).1 (refl, omega (arith, tall, lt, broad), omega (arith, lt, broad))))) (cases_lt x y);
}
  where
    is : IsMatchingOf a m
    is = look_matching a m (rows ∙ high) (columns ∙ broad) (λ r c h. let (same, row, col) = (pairs r c).0 h in subst (λ k. IsEntry a r k) same (full r (omega (arith, row, high)) (omega (arith, same, col, broad)))) pairing

-- of a square matrix it has a pair for each row
pub diagonal_long : (a : Matrix) (m : List Place) (n : ℕ) → n ≡ a.rows → n ≡ cols a → ((r c : ℕ) → Among (r, c) m ↔ ((r ≡ c) × (r < n) × (c < n))) → IsMaximum a m → length m ≡ a.rows
diagonal_long a m n high broad pairs most =
    let on : (k : ℕ) → k < n → Among (k, k) m = λ k lt. (pairs k k).1 (refl, lt, lt) in
    let least = full_length a m (record {
      matching = most.matching;
      all_rows = λ r lt. row_among r r m (on r (omega (arith, lt, high)));
      all_cols = λ c lt. col_among c c m (on c (omega (arith, lt, broad)));
    }) in
    let few = matching_few a m most.matching in
    omega (arith, least, few, high, broad)

-- Its rank.

-- the rows of pairs of equal numbers, and their columns
pair_rows : (xs : List ℕ) → rows_of (map (λ (i : ℕ). (i, i)) xs) ≡ xs
pair_rows [] = refl
pair_rows (x ∷ xs) = ap (λ (ys : List ℕ). x ∷ ys) (pair_rows xs)

pair_cols : (xs : List ℕ) → cols_of (map (λ (i : ℕ). (i, i)) xs) ≡ xs
pair_cols [] = refl
pair_cols (x ∷ xs) = ap (λ (ys : List ℕ). x ∷ ys) (pair_cols xs)

diagonal_matching : (a : Matrix) (n : ℕ) → n ≤ a.rows → n ≤ cols a → IsDiagonalFull a → IsMatching a (diagonal n)
diagonal_matching a n high broad full = record {
  entries = λ r c h.
      let (i, on, e) = among_map_back (λ (k : ℕ). (k, k)) (r, c) (upto n) h in
      let lt = (upto_lists n).sound i on in
      subst (λ (p : Place). IsEntry a p.0 p.1) e (full i (omega (arith, lt, high)) (omega (arith, lt, broad)));
  rows_differ = subst AreDistinct (sym (pair_rows (upto n))) (rising_distinct (upto n) (upto_rising 0 n));
  cols_differ = subst AreDistinct (sym (pair_cols (upto n))) (rising_distinct (upto n) (upto_rising 0 n));
}

-- a full diagonal that takes all rows, or all columns, has as many places as the rank
pub full_diagonal_rank : (a : Matrix) (n : ℕ) → n ≤ a.rows → n ≤ cols a → (a.rows ≤ n) ⊎ (cols a ≤ n) → IsDiagonalFull a → IsRank a n
full_diagonal_rank a n high broad short full = (diagonal n, maximum short, upto_mapped (λ i. (i, i)) n)
  where
    is : IsMatching a (diagonal n)
    is = diagonal_matching a n high broad full

    maximum : (a.rows ≤ n) ⊎ (cols a ≤ n) → IsMaximum a (diagonal n)
    maximum (inl rows) = rows_matched_maximum a (diagonal n) is (λ r c e. let lt = e.0 in subst (Among r) (sym (pair_rows (upto n))) ((upto_lists n).complete r (omega (arith, lt, rows))))
    maximum (inr columns) = cols_matched_maximum a (diagonal n) is (λ r c e. let lt = entry_col a r c e in subst (Among c) (sym (pair_cols (upto n))) ((upto_lists n).complete c (omega (arith, lt, columns))))
