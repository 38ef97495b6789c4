-- How many rows and columns the parts have.
use Rattle.std.proofs.Common.{◌≡◌, ℕ, ◌+◌, ◌<◌, ◌≤◌, List, [], ◌∷◌, ◌++◌, length, refl, subst, inl, inr, ⊎_elim, arith, length-append, le_antisymm}
use Rattle.std.proofs.Math.Decide.{ℕ_discrete}
use Rattle.bip_defs.specs.Lists.{Among, AreDistinct, Lists}
use Rattle.bip_defs.specs.Matching.{IsHallSet, IsMaximum, IsRank, transposed_places}
use Rattle.bip_defs.specs.Matrix.{IsEntry, IsTransposeOf, Matrix, Place, cols, neighbours, transpose, upto}
use Rattle.bip_defs.specs.Parts.{ArePartsOf, IsHorizontalCol, IsHorizontalRow, IsSquareCol, IsSquareRow, IsVerticalCol, IsVerticalRow, Parts}
use Rattle.bip_defs.proofs.Reaching.{reached_hall, reached_horizontal, reached_somehow}
use Rattle.bip_defs.proofs.Sets.{among_either, among_left, among_right, col_pair, entry_col, few_distinct, lists_same, lists_unique, neighbours_lists, number_among, one_col, one_row, pigeonhole, rising_distinct, row_pair, upto_length, upto_lists}
use Rattle.bip_defs.proofs.Square.{cols_apart, rows_apart, square_col_mate, square_col_matched, square_row_mate, square_row_matched}
use Rattle.bip_defs.proofs.Transposed.{transpose_cols, transpose_is, turned_maximum, turned_length, vertical_col_turned, turned_vertical_col, vertical_turned, turned_vertical}

-- an equation of numbers that cannot fail holds
stable : (x y : ℕ) → ¬ ¬ (x ≡ y) → x ≡ y
stable x y h = elim (ℕ_discrete x y) [ yes e ↦ e | no ne ↦ absurd (h ne) ]

-- the horizontal columns are a Hall set of each maximum matching
pub horizontal_hall_set : (a : Matrix) (m : List Place) (w : List ℕ) → IsMaximum a m → Lists (IsHorizontalCol a) w → IsHallSet a m w
horizontal_hall_set a m w max l = record {
  rising = l.rising;
  in_range = λ c h. (l.sound c h).0;
  deficiency = stable (length w + length m) (cols a + length (neighbours a w)) (λ none. reached_somehow a m max (λ s. none (subst (λ v. length v + length m ≡ cols a + length (neighbours a v)) (lists_unique (IsHorizontalCol a) s.0 w (reached_horizontal a m s.0 max.matching s.1) l) (reached_hall a m s.0 max.matching s.1).deficiency)));
}

-- the horizontal rows are their neighbours
pub horizontal_rows_are : (a : Matrix) (w rs : List ℕ) → Lists (IsHorizontalCol a) w → Lists (IsHorizontalRow a) rs → rs ≡ neighbours a w
horizontal_rows_are a w rs l h = lists_unique (IsHorizontalRow a) rs (neighbours a w) h (lists_same (λ r. (c : ℕ) × Among c w × IsEntry a r c) (IsHorizontalRow a) (neighbours a w) (λ r k. (k.0, l.sound k.0 k.1, k.2)) (λ r k. (k.0, l.complete k.0 k.1, k.2)) (neighbours_lists a w))

-- as many horizontal columns more than horizontal rows as columns are unmatched
pub horizontal_count : (a : Matrix) (m : List Place) (w rs : List ℕ) → IsMaximum a m → Lists (IsHorizontalCol a) w → Lists (IsHorizontalRow a) rs → length w + length m ≡ cols a + length rs
horizontal_count a m w rs max l h = rw (horizontal_rows_are a w rs l h) (horizontal_hall_set a m w max l).deficiency

pub vertical_count : (a : Matrix) (m : List Place) (w cs : List ℕ) → IsMaximum a m → Lists (IsVerticalRow a) w → Lists (IsVerticalCol a) cs → length w + length m ≡ a.rows + length cs
vertical_count a m w cs max l h = omega (
  arith,
  turned_length m,
  transpose_cols a,
  horizontal_count (transpose a) (transposed_places m) w cs (turned_maximum a (transpose a) m t max)
      (lists_same (IsVerticalRow a) (IsHorizontalCol (transpose a)) w (λ r k. vertical_turned a (transpose a) r t k) (λ r k. turned_vertical a (transpose a) r t k) l)
      (lists_same (IsVerticalCol a) (IsHorizontalRow (transpose a)) cs (λ c k. vertical_col_turned a (transpose a) c t k) (λ c k. turned_vertical_col a (transpose a) c t k) h),
)
  where
    t : IsTransposeOf a (transpose a)
    t = transpose_is a

-- as many square rows as square columns
pub square_count : (a : Matrix) (m : List Place) (rs cs : List ℕ) → IsMaximum a m → Lists (IsSquareRow a) rs → Lists (IsSquareCol a) cs → length rs ≡ length cs
square_count a m rs cs max l h = le_antisymm rows_fit cols_fit
  where
    rows_fit : length rs ≤ length cs
    rows_fit = pigeonhole (λ (r c : ℕ). Among (r, c) m) (λ r s c p q. one_row m max.matching.cols_differ r s c p q) rs cs (rising_distinct rs l.rising) (λ r k. let (c, p) = row_pair r m (square_row_matched a m r max (l.sound r k)) in (c, h.complete c (square_row_mate a m r c max p (l.sound r k)), p))

    cols_fit : length cs ≤ length rs
    cols_fit = pigeonhole (λ (c r : ℕ). Among (r, c) m) (λ c d r p q. one_col m max.matching.rows_differ r c d p q) cs rs (rising_distinct cs h.rising) (λ c k. let (r, p) = col_pair c m (square_col_matched a m c max (h.sound c k)) in (r, l.complete r (square_col_mate a m r c max p (h.sound c k)), p))

pub distinct_append : {X : Type 0} (xs ys : List X) → AreDistinct xs → AreDistinct ys → ((x : X) → Among x xs → ¬ Among x ys) → AreDistinct (xs ++ ys)
distinct_append [] ys a b apart = b
distinct_append (x ∷ xs) ys a b apart = (λ h. ⊎_elim a.0 (apart x (inl refl)) (among_either x xs ys h), distinct_append xs ys a.1 b (λ y h. apart y (inr h)))

-- three rising lists that share no number and hold all numbers below n
three_parts : (P Q R : ℕ → Type 0) (n : ℕ) (xs ys zs : List ℕ) → Lists P xs → Lists Q ys → Lists R zs → ((x : ℕ) → P x → ¬ Q x) → ((x : ℕ) → P x → ¬ R x) → ((x : ℕ) → Q x → ¬ R x) → ((x : ℕ) → P x → x < n) → ((x : ℕ) → Q x → x < n) → ((x : ℕ) → R x → x < n) → ((x : ℕ) → x < n → ¬ P x → ¬ R x → Q x) → length xs + length ys + length zs ≡ n
three_parts P Q R n xs ys zs l h k pq pr qr pn qn rn rest = omega (arith, length-append xs (ys ++ zs), length-append ys zs, upto_length 0 n, few, many)
  where
    few : length (xs ++ (ys ++ zs)) ≤ length (upto n)
    few = few_distinct (xs ++ (ys ++ zs)) (upto n) (distinct_append xs (ys ++ zs) (rising_distinct xs l.rising) (distinct_append ys zs (rising_distinct ys h.rising) (rising_distinct zs k.rising) (λ x a b. qr x (h.sound x a) (k.sound x b))) (λ x a b. ⊎_elim (λ c. pq x (l.sound x a) (h.sound x c)) (λ c. pr x (l.sound x a) (k.sound x c)) (among_either x ys zs b)))
        (λ x a. (upto_lists n).complete x (⊎_elim (λ b. pn x (l.sound x b)) (λ b. ⊎_elim (λ c. qn x (h.sound x c)) (λ c. rn x (k.sound x c)) (among_either x ys zs b)) (among_either x xs (ys ++ zs) a)))

    many : length (upto n) ≤ length (xs ++ (ys ++ zs))
    many = few_distinct (upto n) (xs ++ (ys ++ zs)) (rising_distinct (upto n) (upto_lists n).rising) (λ x a. ⊎_elim (λ b. among_left x xs (ys ++ zs) b) (λ nb. among_right x xs (ys ++ zs) (⊎_elim (λ c. among_right x ys zs c) (λ nc. among_left x ys zs (h.complete x (rest x ((upto_lists n).sound x a) (λ p. nb (l.complete x p)) (λ r. nc (k.complete x r))))) (number_among x zs))) (number_among x xs))

pub horizontal_row_in_range : (a : Matrix) (r : ℕ) → IsHorizontalRow a r → r < a.rows
horizontal_row_in_range a r h = h.2.0

pub vertical_col_in_range : (a : Matrix) (c : ℕ) → IsVerticalCol a c → c < cols a
vertical_col_in_range a c v = entry_col a v.0 c v.2

pub rows_count : (a : Matrix) (p : Parts) → ArePartsOf a p → length p.horizontal_rows + length p.square_rows + length p.vertical_rows ≡ a.rows
rows_count a p h = three_parts (IsHorizontalRow a) (IsSquareRow a) (IsVerticalRow a) a.rows p.horizontal_rows p.square_rows p.vertical_rows h.horizontal_rows h.square_rows h.vertical_rows (λ r k s. s.1 k) (rows_apart a) (λ r s v. s.2 v) (horizontal_row_in_range a) (λ r s. s.0) (λ r v. v.0) (λ r lt nh nv. (lt, nh, nv))

pub cols_count : (a : Matrix) (p : Parts) → ArePartsOf a p → length p.horizontal_cols + length p.square_cols + length p.vertical_cols ≡ cols a
cols_count a p h = three_parts (IsHorizontalCol a) (IsSquareCol a) (IsVerticalCol a) (cols a) p.horizontal_cols p.square_cols p.vertical_cols h.horizontal_cols h.square_cols h.vertical_cols (λ c k s. s.1 k) (cols_apart a) (λ c s v. s.2 v) (λ c k. k.0) (λ c s. s.0) (vertical_col_in_range a) (λ c lt nh nv. (lt, nh, nv))

-- the rank is the number of horizontal rows, square rows and vertical columns
pub rank_count : (a : Matrix) (k : ℕ) (p : Parts) → IsRank a k → ArePartsOf a p → k ≡ length p.horizontal_rows + length p.square_rows + length p.vertical_cols
rank_count a k p rank h = omega (arith, rank.2, cols_count a p h, square_count a rank.0 p.square_rows p.square_cols rank.1 h.square_rows h.square_cols, horizontal_count a rank.0 p.horizontal_cols p.horizontal_rows rank.1 h.horizontal_cols h.horizontal_rows)
