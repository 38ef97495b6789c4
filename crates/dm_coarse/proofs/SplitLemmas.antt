-- Rows of a side one after another, each in its part.
use Rattle.std.proofs.Common.{Result, Ok, Err, IfOk, Option, Some, None, Vec, Global, ◌≡◌, ◌∙◌, true≢false, ℕ, ◌+◌, ◌<◌, ◌≤◌, Bool, true, false, List, [], ◌∷◌, ◌++◌, map, get_or, sym, ap, subst, inl, ⊎_elim, arith}
use Rattle.std.proofs.Math.Decide.{dec_lt}
use Rattle.std.proofs.lemmas.List.{map-append, map-id}
use Rattle.bip_defs.specs.Lists.{Among, AreDistinct, Lists}
use Rattle.bip_defs.specs.Marks.{Marks}
use Rattle.bip_defs.specs.Matching.{IsMatching, IsMaximum, cols_of, rows_of, transposed_places}
use Rattle.bip_defs.specs.Matrix.{Matrix, Place, cols, column, transpose}
use Rattle.bip_defs.specs.Parts.{ArePartsOf, IsHorizontalCol, IsHorizontalRow, IsSquareCol, IsSquareRow, IsVerticalCol, IsVerticalRow}
use Rattle.bip_defs.proofs.Counts.{horizontal_row_in_range}
use Rattle.bip_defs.proofs.Sets.{among_last, among_left, among_right, entry_col, lists_same, number_among, number_same, rising_last}
use Rattle.bip_defs.proofs.Square.{horizontal_mate, rows_apart}
use Rattle.bip_defs.proofs.Transposed.{horizontal_marks_turned, horizontal_turned, square_col_turned, square_row_turned, transpose_back, transpose_is, turned_horizontal, turned_marks, turned_maximum, turned_twice, turned_vertical_col, vertical_col_turned, vertical_marks_turned}
use Rattle.bip_graph.specs.Matching.{IsMatchingOf, IsMaximumOf, Pairing, transposed}
use Rattle.dm_coarse.specs.Searches.{AreColsIfMaximum, AreRowsIfMaximum}
use Rattle.dm_coarse.specs.Split.{AreKnown, AreRowsByPart}
use Rattle.dm_coarse.specs.declared.split.ByPart.{ByPart}

-- The numbers below a bound that have P, as the bound grows.

abbrev pub Below : (ℕ → Type 0) → ℕ → ℕ → Type 0
Below P n x = (x < n) × P x

pub below_yes : (P : ℕ → Type 0) (n : ℕ) (xs : List ℕ) → P n → Lists (Below P n) xs → Lists (Below P (n + 1)) (xs ++ n ∷ [])
below_yes P n xs p l = record {
  rising = rising_last xs n l.rising (λ x h. (l.sound x h).0);
  sound = λ x h. ⊎_elim (λ k. let s = l.sound x k in let lt = s.0 in (omega arith, s.1)) (λ (e : x ≡ n). (omega arith, subst P (sym e) p)) (among_last x n xs h);
  complete = λ x h. ⊎_elim (λ (e : x ≡ n). among_right x xs (n ∷ []) (inl e)) (λ ne. among_left x xs (n ∷ []) (l.complete x (let lt = h.0 in omega arith, h.1))) (number_same x n);
}

pub below_no : (P : ℕ → Type 0) (n : ℕ) (xs : List ℕ) → ¬ P n → Lists (Below P n) xs → Lists (Below P (n + 1)) xs
below_no P n xs p l = lists_same (Below P n) (Below P (n + 1)) xs
    (λ x h. (let lt = h.0 in omega arith, h.1))
    (λ x h. ⊎_elim (λ (e : x ≡ n). absurd (p (subst P e h.1))) (λ ne. (let lt = h.0 in omega arith, h.1)) (number_same x n))
    l

-- the rows below n, in three lists
pub record IsSplit (a : Matrix) (n : ℕ) (hs ss vs : List ℕ) : Type 0 where
  pub horizontal : Lists (Below (IsHorizontalRow a) n) hs
  pub square : Lists (Below (IsSquareRow a) n) ss
  pub vertical : Lists (Below (IsVerticalRow a) n) vs

pub split_horizontal : (a : Matrix) (n : ℕ) (hs ss vs : List ℕ) → IsHorizontalRow a n → IsSplit a n hs ss vs → IsSplit a (n + 1) (hs ++ n ∷ []) ss vs
split_horizontal a n hs ss vs h s = record {
  horizontal = below_yes (IsHorizontalRow a) n hs h s.horizontal;
  square = below_no (IsSquareRow a) n ss (λ k. k.1 h) s.square;
  vertical = below_no (IsVerticalRow a) n vs (rows_apart a n h) s.vertical;
}

pub split_square : (a : Matrix) (n : ℕ) (hs ss vs : List ℕ) → IsSquareRow a n → IsSplit a n hs ss vs → IsSplit a (n + 1) hs (ss ++ n ∷ []) vs
split_square a n hs ss vs h s = record {
  horizontal = below_no (IsHorizontalRow a) n hs h.1 s.horizontal;
  square = below_yes (IsSquareRow a) n ss h s.square;
  vertical = below_no (IsVerticalRow a) n vs h.2 s.vertical;
}

pub split_vertical : (a : Matrix) (n : ℕ) (hs ss vs : List ℕ) → IsVerticalRow a n → IsSplit a n hs ss vs → IsSplit a (n + 1) hs ss (vs ++ n ∷ [])
split_vertical a n hs ss vs h s = record {
  horizontal = below_no (IsHorizontalRow a) n hs (λ k. rows_apart a n k h) s.horizontal;
  square = below_no (IsSquareRow a) n ss (λ k. k.2 h) s.square;
  vertical = below_yes (IsVerticalRow a) n vs h s.vertical;
}

pub number_last : {X : Type 0} (f : X → ℕ) (xs : List X) (x : X) (n : ℕ) → f x ≡ n → map f (xs ++ x ∷ []) ≡ map f xs ++ n ∷ []
number_last f xs x n e = map-append f xs (x ∷ []) ∙ ap (λ k. map f xs ++ k ∷ []) e

pub all_below : (P : ℕ → Type 0) (n : ℕ) (xs : List ℕ) → ((x : ℕ) → P x → x < n) → Lists (Below P n) xs → Lists P xs
all_below P n xs below l = lists_same (Below P n) P xs (λ x h. h.1) (λ x h. (below x h, h)) l

-- Which part a row is in.

pub mate_horizontal : (a : Matrix) (m : List Place) (r c : ℕ) → IsMaximum a m → Among (r, c) m → IsHorizontalCol a c → IsHorizontalRow a r
mate_horizontal a m r c max p h = (c, h, max.matching.entries r c p)

pub mate_square : (a : Matrix) (m : List Place) (r c : ℕ) → r < a.rows → IsMaximum a m → Among (r, c) m → ¬ IsHorizontalCol a c → ¬ IsVerticalRow a r → IsSquareRow a r
mate_square a m r c lt max p h v = (lt, λ k. horizontal_mate a m r c max k p h, v)

-- Marks.

pub marked_is : (n : ℕ) (P : ℕ → Type 0) (marks : List Bool) (i : ℕ) → Marks n P marks → i < n → get_or marks i false ≡ true → P i
marked_is n P marks i k lt e = (k.exact i lt).0 e

pub unmarked_is : (n : ℕ) (P : ℕ → Type 0) (marks : List Bool) (j i : ℕ) → j ≡ i → Marks n P marks → i < n → get_or marks j false ≡ false → ¬ P i
unmarked_is n P marks j i same k lt e p = true≢false (sym ((k.exact i lt).1 p) ∙ ap (λ x. get_or marks x false) (sym same) ∙ e)

pub mate_below : (a : Matrix) (m : List Place) (r c : ℕ) → IsMaximum a m → Among (r, c) m → c < cols a
mate_below a m r c max p = entry_col a r c (max.matching.entries r c p)

-- One row more.

pub more_horizontal : {X : Type 0} (f : X → ℕ) (a : Matrix) (n : ℕ) (x : X) (hs ss vs hs2 ss2 vs2 : List X) → f x ≡ n → IsHorizontalRow a (f x) → IsSplit a n (map f hs) (map f ss) (map f vs) → hs2 ≡ hs ++ x ∷ [] → ss2 ≡ ss → vs2 ≡ vs → IsSplit a (n + 1) (map f hs2) (map f ss2) (map f vs2)
more_horizontal f a n x hs ss vs hs2 ss2 vs2 e p s i j k =
    subst (λ z. IsSplit a (n + 1) z (map f ss2) (map f vs2)) (sym (ap (map f) i ∙ number_last f hs x n e))
    (subst (λ z. IsSplit a (n + 1) (map f hs ++ n ∷ []) z (map f vs2)) (sym (ap (map f) j))
    (subst (λ z. IsSplit a (n + 1) (map f hs ++ n ∷ []) (map f ss) z) (sym (ap (map f) k)) (split_horizontal a n (map f hs) (map f ss) (map f vs) (subst (IsHorizontalRow a) e p) s)))

pub more_square : {X : Type 0} (f : X → ℕ) (a : Matrix) (n : ℕ) (x : X) (hs ss vs hs2 ss2 vs2 : List X) → f x ≡ n → IsSquareRow a (f x) → IsSplit a n (map f hs) (map f ss) (map f vs) → hs2 ≡ hs → ss2 ≡ ss ++ x ∷ [] → vs2 ≡ vs → IsSplit a (n + 1) (map f hs2) (map f ss2) (map f vs2)
more_square f a n x hs ss vs hs2 ss2 vs2 e p s i j k =
    subst (λ z. IsSplit a (n + 1) z (map f ss2) (map f vs2)) (sym (ap (map f) i))
    (subst (λ z. IsSplit a (n + 1) (map f hs) z (map f vs2)) (sym (ap (map f) j ∙ number_last f ss x n e))
    (subst (λ z. IsSplit a (n + 1) (map f hs) (map f ss ++ n ∷ []) z) (sym (ap (map f) k)) (split_square a n (map f hs) (map f ss) (map f vs) (subst (IsSquareRow a) e p) s)))

pub more_vertical : {X : Type 0} (f : X → ℕ) (a : Matrix) (n : ℕ) (x : X) (hs ss vs hs2 ss2 vs2 : List X) → f x ≡ n → IsVerticalRow a (f x) → IsSplit a n (map f hs) (map f ss) (map f vs) → hs2 ≡ hs → ss2 ≡ ss → vs2 ≡ vs ++ x ∷ [] → IsSplit a (n + 1) (map f hs2) (map f ss2) (map f vs2)
more_vertical f a n x hs ss vs hs2 ss2 vs2 e p s i j k =
    subst (λ z. IsSplit a (n + 1) z (map f ss2) (map f vs2)) (sym (ap (map f) i))
    (subst (λ z. IsSplit a (n + 1) (map f hs) z (map f vs2)) (sym (ap (map f) j))
    (subst (λ z. IsSplit a (n + 1) (map f hs) (map f ss) z) (sym (ap (map f) k ∙ number_last f vs x n e)) (split_vertical a n (map f hs) (map f ss) (map f vs) (subst (IsVerticalRow a) e p) s)))

pub split_end : {F : Type 0} (number : F → ℕ) (a : Matrix) (n : ℕ) (s : ByPart F) → a.rows ≤ n → IsSplit a n (map number s.horizontal.items) (map number s.square.items) (map number s.vertical.items) → AreRowsByPart number a s
split_end number a n s le k = record {
  horizontal = all_below (IsHorizontalRow a) n (map number s.horizontal.items) (λ x h. let lt = horizontal_row_in_range a x h in omega arith) k.horizontal;
  square = all_below (IsSquareRow a) n (map number s.square.items) (λ x h. let lt = h.0 in omega arith) k.square;
  vertical = all_below (IsVerticalRow a) n (map number s.vertical.items) (λ x h. let lt = h.0 in omega arith) k.vertical;
}

-- The transpose.

pub known_turned : (a : Matrix) (m : Pairing) (hcs vrs : List Bool) → IsMaximumOf (transpose a) (transposed m) → AreKnown a m hcs vrs → AreKnown (transpose a) (transposed m) vrs hcs
known_turned a m hcs vrs max k = record { maximum = max; horizontal = vertical_marks_turned a vrs k.vertical; vertical = horizontal_marks_turned a hcs k.horizontal }

square_cols_lists : (a : Matrix) (xs : List ℕ) → Lists (IsSquareRow (transpose a)) xs → Lists (IsSquareCol a) xs
square_cols_lists a xs l = lists_same (IsSquareRow (transpose a)) (IsSquareCol a) xs (λ c k. square_row_turned (transpose a) a c (transpose_back a (transpose a) (transpose_is a)) k) (λ c k. square_col_turned a (transpose a) c (transpose_is a) k) l

horizontal_cols_lists : (a : Matrix) (xs : List ℕ) → Lists (IsVerticalRow (transpose a)) xs → Lists (IsHorizontalCol a) xs
horizontal_cols_lists a xs l = lists_same (IsVerticalRow (transpose a)) (IsHorizontalCol a) xs (λ c k. turned_horizontal a (transpose a) c (transpose_is a) k) (λ c k. horizontal_turned a (transpose a) c (transpose_is a) k) l

vertical_cols_lists : (a : Matrix) (xs : List ℕ) → Lists (IsHorizontalRow (transpose a)) xs → Lists (IsVerticalCol a) xs
vertical_cols_lists a xs l = lists_same (IsHorizontalRow (transpose a)) (IsVerticalCol a) xs (λ c k. turned_vertical_col a (transpose a) c (transpose_is a) k) (λ c k. vertical_col_turned a (transpose a) c (transpose_is a) k) l

plain_lists : (P : ℕ → Type 0) (xs : List ℕ) → Lists P (map (λ (x : ℕ). x) xs) → Lists P xs
plain_lists P xs l = subst (Lists P) (map-id xs) l

-- the columns of each part are the rows of the transpose's part opposite
pub parts_from : (a : Matrix) (rows cols : ByPart ℕ) → AreRowsByPart (λ (x : ℕ). x) a rows → AreRowsByPart (λ (x : ℕ). x) (transpose a) cols → ArePartsOf a (record { horizontal_rows = rows.horizontal.items; horizontal_cols = cols.vertical.items; square_rows = rows.square.items; square_cols = cols.square.items; vertical_rows = rows.vertical.items; vertical_cols = cols.horizontal.items })
parts_from a rows cols r c = record {
  horizontal_rows = plain_lists (IsHorizontalRow a) rows.horizontal.items r.horizontal;
  horizontal_cols = horizontal_cols_lists a cols.vertical.items (plain_lists (IsVerticalRow (transpose a)) cols.vertical.items c.vertical);
  square_rows = plain_lists (IsSquareRow a) rows.square.items r.square;
  square_cols = square_cols_lists a cols.square.items (plain_lists (IsSquareRow (transpose a)) cols.square.items c.square);
  vertical_rows = plain_lists (IsVerticalRow a) rows.vertical.items r.vertical;
  vertical_cols = vertical_cols_lists a cols.horizontal.items (plain_lists (IsHorizontalRow (transpose a)) cols.horizontal.items c.horizontal);
}

-- What nothing refutes.

distinct_stable : (xs : List ℕ) → ¬ ¬ AreDistinct xs → AreDistinct xs
distinct_stable [] nn = tt
distinct_stable (x ∷ xs) nn = (λ h. nn (λ d. d.0 h), distinct_stable xs (λ k. nn (λ d. k d.1)))

less_stable : (x y : ℕ) → ¬ ¬ (x < y) → x < y
less_stable x y nn = by (dec_lt x y)
  where
    by : Dec (x < y) → x < y
    by (yes lt) = lt
    by (no nlt) = absurd (nn nlt)

matching_stable : (a : Matrix) (m : List Place) → ¬ ¬ IsMatching a m → IsMatching a m
matching_stable a m nn = record {
  entries = λ r c h. (less_stable r a.rows (λ f. nn (λ k. f (k.entries r c h).0)), ⊎_elim (λ k. k) (λ f. absurd (nn (λ k. f (k.entries r c h).1))) (number_among r (column a c)));
  rows_differ = distinct_stable (rows_of m) (λ f. nn (λ k. f k.rows_differ));
  cols_differ = distinct_stable (cols_of m) (λ f. nn (λ k. f k.cols_differ));
}

-- A matching that a matrix is known to have.

pub known : (a : Matrix) (m : Pairing) → m.rows ≡ a.rows → m.cols ≡ cols a → ¬ ¬ IsMatching a m.pairs → IsMatchingOf a m
known a m rows sizes nn = record { rows = rows; cols = sizes; matching = matching_stable a m.pairs nn }

maximum_back : (a : Matrix) (m : List Place) → IsMaximum (transpose a) (transposed_places m) → IsMaximum a m
maximum_back a m max = subst (IsMaximum a) (turned_twice m) (turned_maximum (transpose a) a (transposed_places m) (transpose_back a (transpose a) (transpose_is a)) max)

-- What a search over the transpose told.

pub rows_told : {E : Type 0} (a : Matrix) (m : Pairing) (r : Result (Option (Vec Bool Global)) E) → IfOk r (AreColsIfMaximum (transpose a) (transposed m)) → IfOk r (AreRowsIfMaximum a m)
rows_told a m (Ok (Some v)) k = record { maximum = maximum_back a m.pairs k.maximum; holds = turned_marks a v.items k.holds; not_maximum = tt }
rows_told a m (Ok None) k = record { maximum = tt; holds = tt; not_maximum = λ max. k.not_maximum (turned_maximum a (transpose a) m.pairs (transpose_is a) max) }
rows_told a m (Err e) k = tt
