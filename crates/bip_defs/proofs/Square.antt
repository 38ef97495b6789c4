-- The horizontal and the vertical part are apart, and the square part's rows and columns are mates.
use Rattle.std.proofs.Common.{ℕ, Bool, true, false, cond, List, [], ◌∷◌, filter, map, nat_eq, subst, ⊎_elim}
use Rattle.std.specs.List.{list_any}
use Rattle.bip_defs.specs.Blocks.{IsPerfect}
use Rattle.bip_defs.specs.Lists.{Among, AreDistinct, Lists}
use Rattle.bip_defs.specs.Matching.{IsMatching, IsMaximum, cols_of, rows_of, transposed_places}
use Rattle.bip_defs.specs.Matrix.{IsEntry, Matrix, Place, transpose}
use Rattle.bip_defs.specs.Parts.{IsHorizontalCol, IsHorizontalRow, IsSquareCol, IsSquareRow, IsVerticalCol, IsVerticalRow}
use Rattle.bip_defs.proofs.Reaching.{reached_horizontal, reached_somehow}
use Rattle.bip_defs.proofs.Sets.{among_map, among_map_back, among_test, col_among, col_pair, entry_col, filter_complete, filter_sound, number_among, one_col, row_among, row_pair}
use Rattle.bip_defs.proofs.Transposed.{transpose_is, turned_among, turned_maximum, turned_vertical, vertical_col_turned}

-- no row is in both parts
pub rows_apart : (a : Matrix) (r : ℕ) → IsHorizontalRow a r → ¬ IsVerticalRow a r
rows_apart a r h v = reached_somehow a v.1 v.2 (λ s. let (d, p, l) = s.1.closed r h.0 ((reached_horizontal a v.1 s.0 v.2.matching s.1).complete h.0 h.1) h.2 in v.3 (row_among r d v.1 p))

-- no column is in both parts
pub cols_apart : (a : Matrix) (c : ℕ) → IsHorizontalCol a c → ¬ IsVerticalCol a c
cols_apart a c h v = rows_apart a v.0 (c, h, v.2) v.1

-- the mate of a horizontal row is a horizontal column
pub horizontal_mate : (a : Matrix) (m : List Place) (r c : ℕ) → IsMaximum a m → IsHorizontalRow a r → Among (r, c) m → ¬ ¬ IsHorizontalCol a c
horizontal_mate a m r c max h p none = reached_somehow a m max (λ s.
    let all = reached_horizontal a m s.0 max.matching s.1 in
    let (d, q, l) = s.1.closed r h.0 (all.complete h.0 h.1) h.2 in
    none (all.sound c (subst (λ x. Among x s.0) (one_col m max.matching.rows_differ r d c q p) l)))

-- the mate of a vertical column is a vertical row
pub vertical_mate : (a : Matrix) (m : List Place) (r c : ℕ) → IsMaximum a m → IsVerticalCol a c → Among (r, c) m → ¬ ¬ IsVerticalRow a r
vertical_mate a m r c max v p none = horizontal_mate (transpose a) (transposed_places m) c r (turned_maximum a (transpose a) m (transpose_is a) max) (vertical_col_turned a (transpose a) c (transpose_is a) v) (turned_among r c m p) (λ h. none (turned_vertical a (transpose a) r (transpose_is a) h))

pub square_row_mate : (a : Matrix) (m : List Place) (r c : ℕ) → IsMaximum a m → Among (r, c) m → IsSquareRow a r → IsSquareCol a c
square_row_mate a m r c max p s = (entry_col a r c e, λ h. s.1 (c, h, e), λ v. vertical_mate a m r c max v p s.2)
  where
    e : IsEntry a r c
    e = max.matching.entries r c p

pub square_col_mate : (a : Matrix) (m : List Place) (r c : ℕ) → IsMaximum a m → Among (r, c) m → IsSquareCol a c → IsSquareRow a r
square_col_mate a m r c max p s = (e.0, λ h. horizontal_mate a m r c max h p s.1, λ v. s.2 (r, v, e))
  where
    e : IsEntry a r c
    e = max.matching.entries r c p

pub square_row_matched : (a : Matrix) (m : List Place) (r : ℕ) → IsMaximum a m → IsSquareRow a r → Among r (rows_of m)
square_row_matched a m r max s = ⊎_elim (λ h. h) (λ free. absurd (s.2 (s.0, m, max, free))) (number_among r (rows_of m))

pub square_col_matched : (a : Matrix) (m : List Place) (c : ℕ) → IsMaximum a m → IsSquareCol a c → Among c (cols_of m)
square_col_matched a m c max s = ⊎_elim (λ h. h) (λ free. absurd (s.1 (s.0, m, max, free))) (number_among c (cols_of m))

-- The pairs of the square part.

distinct_filter : {X Y : Type 0} (f : X → Y) (test : X → Bool) (xs : List X) → AreDistinct (map f xs) → AreDistinct (map f (filter test xs))
distinct_filter f test [] d = tt
distinct_filter f test (x ∷ xs) d = by (test x) (distinct_filter f test xs d.1)
  where
    among : Among (f x) (map f (filter test xs)) → Among (f x) (map f xs)
    among h = let (z, k, e) = among_map_back f (f x) (filter test xs) h in subst (λ y. Among y (map f xs)) e (among_map f z xs (filter_sound test z xs k).0)

    by : (b : Bool) → AreDistinct (map f (filter test xs)) → AreDistinct (map f (cond b (x ∷ filter test xs) (filter test xs)))
    by true k = (λ h. d.0 (among h), k)
    by false k = k

pub filter_matching : (a : Matrix) (test : Place → Bool) (m : List Place) → IsMatching a m → IsMatching a (filter test m)
filter_matching a test m k = record {
  entries = λ r c h. k.entries r c (filter_sound test (r, c) m h).0;
  rows_differ = distinct_filter (λ (p : Place). p.0) test m k.rows_differ;
  cols_differ = distinct_filter (λ (p : Place). p.1) test m k.cols_differ;
}

-- a maximum matching's pairs in these rows
abbrev pub in_rows : List ℕ → List Place → List Place
in_rows rs m = filter (λ (p : Place). list_any (nat_eq p.0) rs) m

pub in_rows_among : (rs : List ℕ) (m : List Place) (r c : ℕ) → Among (r, c) m → Among r rs → Among (r, c) (in_rows rs m)
in_rows_among rs m r c p h = filter_complete (λ (q : Place). list_any (nat_eq q.0) rs) (r, c) m p ((among_test r rs).1 h)

pub in_rows_back : (rs : List ℕ) (m : List Place) (r c : ℕ) → Among (r, c) (in_rows rs m) → Among (r, c) m × Among r rs
in_rows_back rs m r c h = let (p, e) = filter_sound (λ (q : Place). list_any (nat_eq q.0) rs) (r, c) m h in (p, (among_test r rs).0 e)

pub square_pairs_perfect : (a : Matrix) (m : List Place) (rs : List ℕ) → IsMaximum a m → Lists (IsSquareRow a) rs → IsPerfect a (in_rows rs m)
square_pairs_perfect a m rs max l = record {
  matching = filter_matching a (λ (p : Place). list_any (nat_eq p.0) rs) m max.matching;
  covers_row = λ r s. let (c, p) = row_pair r m (square_row_matched a m r max s) in row_among r c (in_rows rs m) (in_rows_among rs m r c p (l.complete r s));
  covers_col = λ c s. let (r, p) = col_pair c m (square_col_matched a m c max s) in col_among r c (in_rows rs m) (in_rows_among rs m r c p (l.complete r (square_col_mate a m r c max p s)));
  only_rows = λ r h. let (c, p) = row_pair r (in_rows rs m) h in l.sound r (in_rows_back rs m r c p).1;
  only_cols = λ c h. let (r, p) = col_pair c (in_rows rs m) h in let (q, on) = in_rows_back rs m r c p in square_row_mate a m r c max q (l.sound r on);
}
