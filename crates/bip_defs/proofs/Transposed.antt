-- The transpose: rows for columns, and what that makes of matchings and parts.
use Rattle.std.proofs.Common.{◌≡◌, ◌∙◌, ℕ, zero, suc, ◌+◌, ◌<◌, ◌≤◌, Bool, true, List, [], ◌∷◌, length, nat_eq, slice_index_or, refl, sym, ap, subst, arith}
use Rattle.std.proofs.Math.Decide.{dec_lt}
use Rattle.std.proofs.lemmas.List.{get_or-map, get_or_past, length-map}
use Rattle.std.specs.List.{list_any}
use Rattle.bip_defs.specs.Lists.{Among, IsRising, Lists}
use Rattle.bip_defs.specs.Matching.{IsMatching, IsMaximum, cols_of, rows_of, transposed_places}
use Rattle.bip_defs.specs.Matrix.{HasPlaces, IsEntry, IsTransposeOf, Matrix, Place, column, cols, row_list, transpose, upto, upto_from}
use Rattle.bip_defs.specs.Parts.{IsHorizontalCol, IsHorizontalRow, IsSquareCol, IsSquareRow, IsVerticalCol, IsVerticalRow, MarkHorizontalCols, MarkHorizontalRows, MarkVerticalCols, MarkVerticalRows}
use Rattle.bip_defs.proofs.Sets.{among_map, among_test, entry_col, filter_lists, lists_same, upto_length}

-- The columns of a row.

pub row_list_lists : (a : Matrix) (r : ℕ) → r < a.rows → Lists (λ c. IsEntry a r c) (row_list a r)
row_list_lists a r lt = lists_same (λ c. (c < cols a) × (list_any (nat_eq r) (column a c) ≡ true)) (λ c. IsEntry a r c) (row_list a r) (λ c h. (lt, (among_test r (column a c)).0 h.1)) (λ c e. (entry_col a r c e, (among_test r (column a c)).1 e.1)) (filter_lists (λ c. list_any (nat_eq r) (column a c)) (cols a))

pub upto_at : (k n i d : ℕ) → i < n → slice_index_or (upto_from k n) i d ≡ k + i
upto_at k zero i d lt = absurd (omega arith)
upto_at k (suc n) zero d lt = omega arith
upto_at k (suc n) (suc i) d lt = upto_at (suc k) n i d (omega arith) ∙ omega arith

pub transpose_cols : (a : Matrix) → cols (transpose a) ≡ a.rows
transpose_cols a = length-map (upto a.rows) (row_list a) ∙ upto_length 0 a.rows

-- a column of the transpose is a row
pub transpose_column : (a : Matrix) (r : ℕ) → r < a.rows → column (transpose a) r ≡ row_list a r
transpose_column a r lt = get_or-map (row_list a) (upto a.rows) r 0 [] (rw upto_length lt) ∙ ap (row_list a) (upto_at 0 a.rows r 0 lt ∙ omega arith)

pub transpose_is : (a : Matrix) → IsTransposeOf a (transpose a)
transpose_is a = record {
  rows_are = refl;
  cols_are = transpose_cols a;
  over = λ r c e. (entry_col a r c e, subst (λ xs. Among c xs) (sym (transpose_column a r e.0)) ((row_list_lists a r e.0).complete c e));
  back = λ r c e. let lt : r < a.rows = rw (← transpose_cols a) (entry_col (transpose a) c r e) in (row_list_lists a r lt).sound c (subst (λ xs. Among c xs) (transpose_column a r lt) e.1);
}

-- each is the transpose of the other
pub transpose_back : (a b : Matrix) → IsTransposeOf a b → IsTransposeOf b a
transpose_back a b t = record { rows_are = sym t.cols_are; cols_are = sym t.rows_are; over = λ c r e. t.back r c e; back = λ c r e. t.over r c e }

-- Matchings.

pub turned_among : (r c : ℕ) (m : List Place) → Among (r, c) m → Among (c, r) (transposed_places m)
turned_among r c m h = among_map (λ (p : Place). (p.1, p.0)) (r, c) m h

pub turned_rows : (m : List Place) → rows_of (transposed_places m) ≡ cols_of m
turned_rows [] = refl
turned_rows (p ∷ m) = ap (λ (xs : List ℕ). p.1 ∷ xs) (turned_rows m)

pub turned_cols : (m : List Place) → cols_of (transposed_places m) ≡ rows_of m
turned_cols [] = refl
turned_cols (p ∷ m) = ap (λ (xs : List ℕ). p.0 ∷ xs) (turned_cols m)

pub turned_twice : (m : List Place) → transposed_places (transposed_places m) ≡ m
turned_twice [] = refl
turned_twice (p ∷ m) = ap (λ (xs : List Place). p ∷ xs) (turned_twice m)

pub turned_length : (m : List Place) → length (transposed_places m) ≡ length m
turned_length m = length-map m (λ (p : Place). (p.1, p.0))

pub turned_back : (r c : ℕ) (m : List Place) → Among (c, r) (transposed_places m) → Among (r, c) m
turned_back r c m h = subst (λ (xs : List Place). Among (r, c) xs) (turned_twice m) (turned_among c r (transposed_places m) h)

pub turned_matching : (a b : Matrix) (m : List Place) → IsTransposeOf a b → IsMatching a m → IsMatching b (transposed_places m)
turned_matching a b m t k = record {
  entries = λ c r h. t.over r c (k.entries r c (turned_back r c m h));
  rows_differ = rw turned_rows k.cols_differ;
  cols_differ = rw turned_cols k.rows_differ;
}

pub turned_maximum : (a b : Matrix) (m : List Place) → IsTransposeOf a b → IsMaximum a m → IsMaximum b (transposed_places m)
turned_maximum a b m t max = record {
  matching = turned_matching a b m t max.matching;
  longest = λ other k. omega (arith, turned_length m, turned_length other, max.longest (transposed_places other) (turned_matching b a other (transpose_back a b t) k));
}

-- Places.

-- the transpose has the places turned
pub turned_places : (rows n : ℕ) (places : List Place) (a : Matrix) → HasPlaces rows n places a → HasPlaces n rows (transposed_places places) (transpose a)
turned_places rows n places a h = record {
  rows_are = h.cols_are;
  cols_are = transpose_cols a ∙ h.rows_are;
  entries = λ c r. (
    λ e. turned_among r c places ((h.entries r c).0 (t.back r c e)),
    λ k. t.over r c ((h.entries r c).1 (turned_back r c places k)),
  );
  columns = λ r. by r (dec_lt r a.rows);
}
  where
    t : IsTransposeOf a (transpose a)
    t = transpose_is a

    by : (r : ℕ) → Dec (r < a.rows) → Lists (λ c. IsEntry (transpose a) c r) (column (transpose a) r)
    by r (yes lt) = subst (Lists (λ c. IsEntry (transpose a) c r)) (sym (transpose_column a r lt))
        (lists_same (λ c. IsEntry a r c) (λ c. IsEntry (transpose a) c r) (row_list a r) (λ c e. t.over r c e) (λ c e. t.back r c e) (row_list_lists a r lt))
    by r (no nlt) =
        let past : column (transpose a) r ≡ [] = get_or_past (transpose a).columns r [] (rw transpose_cols (omega arith)) in
        record {
          rising = subst IsRising (sym past) tt;
          sound = λ c m. absurd (subst (Among c) past m);
          complete = λ c e. e.1;
        }

-- Parts.

pub vertical_turned : (a b : Matrix) (r : ℕ) → IsTransposeOf a b → IsVerticalRow a r → IsHorizontalCol b r
vertical_turned a b r t v = (rw t.cols_are v.0, transposed_places v.1, turned_maximum a b v.1 t v.2, λ h. v.3 (rw turned_cols at h))

pub horizontal_turned : (a b : Matrix) (c : ℕ) → IsTransposeOf a b → IsHorizontalCol a c → IsVerticalRow b c
horizontal_turned a b c t h = (rw t.rows_are h.0, transposed_places h.1, turned_maximum a b h.1 t h.2, λ k. h.3 (rw turned_rows at k))

pub turned_vertical : (a b : Matrix) (r : ℕ) → IsTransposeOf a b → IsHorizontalCol b r → IsVerticalRow a r
turned_vertical a b r t h = horizontal_turned b a r (transpose_back a b t) h

pub turned_horizontal : (a b : Matrix) (c : ℕ) → IsTransposeOf a b → IsVerticalRow b c → IsHorizontalCol a c
turned_horizontal a b c t v = vertical_turned b a c (transpose_back a b t) v

pub vertical_col_turned : (a b : Matrix) (c : ℕ) → IsTransposeOf a b → IsVerticalCol a c → IsHorizontalRow b c
vertical_col_turned a b c t v = (v.0, vertical_turned a b v.0 t v.1, t.over v.0 c v.2)

pub horizontal_row_turned : (a b : Matrix) (r : ℕ) → IsTransposeOf a b → IsHorizontalRow a r → IsVerticalCol b r
horizontal_row_turned a b r t h = (h.0, horizontal_turned a b h.0 t h.1, t.over r h.0 h.2)

pub turned_vertical_col : (a b : Matrix) (c : ℕ) → IsTransposeOf a b → IsHorizontalRow b c → IsVerticalCol a c
turned_vertical_col a b c t h = horizontal_row_turned b a c (transpose_back a b t) h

pub turned_horizontal_row : (a b : Matrix) (r : ℕ) → IsTransposeOf a b → IsVerticalCol b r → IsHorizontalRow a r
turned_horizontal_row a b r t v = vertical_col_turned b a r (transpose_back a b t) v

-- Marks of a part, as marks of the transpose's part.

pub turned_marks : (a : Matrix) (marks : List Bool) → MarkHorizontalCols (transpose a) marks → MarkVerticalRows a marks
turned_marks a marks k = record {
  long = k.long ∙ transpose_cols a;
  exact = λ i lt. (λ h. turned_vertical a (transpose a) i (transpose_is a) ((k.exact i (rw transpose_cols lt)).0 h), λ v. (k.exact i (rw transpose_cols lt)).1 (vertical_turned a (transpose a) i (transpose_is a) v));
}

pub vertical_marks_turned : (a : Matrix) (marks : List Bool) → MarkVerticalRows a marks → MarkHorizontalCols (transpose a) marks
vertical_marks_turned a marks k = record {
  long = k.long ∙ sym (transpose_cols a);
  exact = λ i lt. (λ h. vertical_turned a (transpose a) i (transpose_is a) ((k.exact i (rw transpose_cols at lt)).0 h), λ v. (k.exact i (rw transpose_cols at lt)).1 (turned_vertical a (transpose a) i (transpose_is a) v));
}

pub horizontal_marks_turned : (a : Matrix) (marks : List Bool) → MarkHorizontalCols a marks → MarkVerticalRows (transpose a) marks
horizontal_marks_turned a marks k = record {
  long = k.long;
  exact = λ i lt. (λ h. horizontal_turned a (transpose a) i (transpose_is a) ((k.exact i lt).0 h), λ v. (k.exact i lt).1 (turned_horizontal a (transpose a) i (transpose_is a) v));
}

pub vertical_col_marks_turned : (a : Matrix) (marks : List Bool) → MarkVerticalCols a marks → MarkHorizontalRows (transpose a) marks
vertical_col_marks_turned a marks k = record {
  long = k.long;
  exact = λ c lt. (λ h. vertical_col_turned a (transpose a) c (transpose_is a) ((k.exact c lt).0 h), λ h. (k.exact c lt).1 (turned_vertical_col a (transpose a) c (transpose_is a) h));
}

pub turned_vertical_col_marks : (a : Matrix) (marks : List Bool) → MarkHorizontalRows (transpose a) marks → MarkVerticalCols a marks
turned_vertical_col_marks a marks k = record {
  long = k.long;
  exact = λ c lt. (λ h. turned_vertical_col a (transpose a) c (transpose_is a) ((k.exact c lt).0 h), λ v. (k.exact c lt).1 (vertical_col_turned a (transpose a) c (transpose_is a) v));
}

pub square_row_turned : (a b : Matrix) (r : ℕ) → IsTransposeOf a b → IsSquareRow a r → IsSquareCol b r
square_row_turned a b r t s = (rw t.cols_are s.0, λ h. s.2 (turned_vertical a b r t h), λ v. s.1 (turned_horizontal_row a b r t v))

pub square_col_turned : (a b : Matrix) (c : ℕ) → IsTransposeOf a b → IsSquareCol a c → IsSquareRow b c
square_col_turned a b c t s = (rw t.rows_are s.0, λ h. s.2 (turned_vertical_col a b c t h), λ v. s.1 (turned_horizontal a b c t v))

-- the horizontal columns of the transpose are the vertical rows
pub turned_lists : (a b : Matrix) (w : List ℕ) → IsTransposeOf a b → Lists (IsHorizontalCol b) w → Lists (IsVerticalRow a) w
turned_lists a b w t h = lists_same (IsHorizontalCol b) (IsVerticalRow a) w (λ r k. turned_vertical a b r t k) (λ r v. vertical_turned a b r t v) h
