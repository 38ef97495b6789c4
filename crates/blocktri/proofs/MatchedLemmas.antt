-- Matchings that are found and written.
use Rattle.std.proofs.Common.{◌≡◌, ◌≢◌, ◌↔◌, ◌∙◌, ℕ, ◌^◌, ◌<◌, Bool, true, false, IfNone, IfSome, List, Option, None, Some, length, get_or, arith, refl, subst, sym}
use Rattle.bip_defs.specs.Lists.{Among}
use Rattle.bip_defs.specs.Matching.{IsMaximum, IsRank, rows_of, transposed_places}
use Rattle.bip_defs.specs.Matrix.{Matrix, Place, transpose}
use Rattle.bip_defs.proofs.Sets.{one_col, row_among}
use Rattle.bip_defs.proofs.Transposed.{transpose_is, turned_among, turned_back, turned_length, turned_maximum, turned_twice}
use Rattle.bip_graph.specs.Matching.{IsMatchingOf, IsMaximumOf, IsPairing, Pairing, none}
use Rattle.bip_graph.specs.OuterMarks.{AreOuterMarks}
use Rattle.bip_graph.specs.declared.outer_marks.OuterMarks.{OuterMarks}
use Rattle.blocktri.specs.Answers.{AreColumnsOf, AreRowsOf, Fills, HaveMatesRoom, TellsMatching}
use Rattle.blocktri.specs.Compressed.{AreCompressed, CompressedLists, IsRoom, listed, matrix_given, transpose_if}
use Rattle.blocktri.specs.Diagonal.{IsDiagonalFull}
use Rattle.blocktri.specs.Matched.{IsSearchOf}
use Rattle.blocktri.proofs.CompressedLemmas.{given_cols, given_rows}
use Rattle.blocktri.proofs.WriteLemmas.{AreRowsBelow}

-- Mates.

-- the last column has its row, and so each has
pub rows_all : (m : List Place) (xs : List ℕ) (n : ℕ) → ((r c : ℕ) → Among (r, c) m → c < n) → length xs ≡ n → AreRowsBelow n m xs → AreRowsOf m xs
rows_all m xs n within long are r c = (
  λ (h : Among (r, c) m). let lt = within r c h in let told = (are r c lt).0 h in (omega (arith, lt, long), told.0, told.1),
  λ (told : (c < length xs) × (get_or xs c 0 ≡ r) × (r ≢ none)). let lt = told.0 in (are r c (omega (arith, lt, long))).1 (told.1, told.2),
)

-- what tells the column of a matched row
pub some_col : (m : Pairing) (row col : ℕ) → m.cols < 2 ^ 32 → IsPairing m → Among (row, col) m.pairs → (c : ℕ) → Among (row, c) m.pairs ↔ ((col ≡ c) × (c ≢ none))
some_col m row col few pairing on c = (
  λ (h : Among (row, c) m.pairs). let within = pairing.cols_within row c h in (one_col m.pairs pairing.rows_differ row col c on h, λ e. omega (arith, within, few, e)),
  λ (told : (col ≡ c) × (c ≢ none)). subst (λ (d : ℕ). Among (row, d) m.pairs) told.0 on,
)

-- and what tells that a row has none
pub no_col : (m : Pairing) (row : ℕ) → ¬ Among row (rows_of m.pairs) → (c : ℕ) → Among (row, c) m.pairs ↔ ((none ≡ c) × (c ≢ none))
no_col m row free c =
    (λ (h : Among (row, c) m.pairs). absurd (free (row_among row c m.pairs h)), λ (told : (none ≡ c) × (c ≢ none)). absurd (told.1 (sym told.0)))

-- the same, told of the transpose
pub told_turned : (m : List Place) (row v : ℕ) → ((c : ℕ) → Among (row, c) m ↔ ((v ≡ c) × (c ≢ none))) → (c : ℕ) → Among (c, row) (transposed_places m) ↔ ((v ≡ c) × (c ≢ none))
told_turned m row v told c = (λ h. (told c).0 (turned_back row c m h), λ is. turned_among row c m ((told c).1 is))

-- Matchings of the matrix that is given.

-- where the lists are compressed rows, each pair is turned
abbrev pub turned_if : Bool → List Place → List Place
turned_if true m = transposed_places m
turned_if false m = m

turned_if_maximum : (by_rows : Bool) (a : Matrix) (m : List Place) → IsMaximum a m → IsMaximum (transpose_if by_rows a) (turned_if by_rows m)
turned_if_maximum true a m max = turned_maximum a (transpose a) m (transpose_is a) max
turned_if_maximum false a m max = max

turned_if_length : (by_rows : Bool) (m : List Place) → length (turned_if by_rows m) ≡ length m
turned_if_length true m = turned_length m
turned_if_length false m = refl

-- the rank is that of the matrix whose compressed columns the lists are
pub given_rank : (l : CompressedLists) (m : List Place) → IsMaximum (listed l) m → IsRank (matrix_given l) (length m)
given_rank l m max = (turned_if l.by_rows m, turned_if_maximum l.by_rows (listed l) m max, turned_if_length l.by_rows m)

-- the lists to be written have room for the mates of a matching
pub mates_room : (l : CompressedLists) (m : Pairing) (row_of_column column_of_row : List ℕ) → AreCompressed l → IsMatchingOf (matrix_given l) m → HaveMatesRoom l row_of_column column_of_row → IsRoom m.cols row_of_column × IsRoom m.rows column_of_row
mates_room l m row_of_column column_of_row right is room =
    (subst (λ n. IsRoom n row_of_column) (sym (is.cols ∙ given_cols l)) room.rows_are, subst (λ n. IsRoom n column_of_row) (sym (is.rows ∙ given_rows l)) room.columns_are)

-- What is told of them.

-- a list of the columns of the rows has the rows of the columns of the transpose
twice_turned : (m : List Place) (old new : List ℕ) → Fills old new (AreRowsOf m new) → Fills old new (AreColumnsOf (transposed_places m) new)
twice_turned m old new fills = subst (λ (o : List Place). Fills old new (AreRowsOf o new)) (sym (turned_twice m)) fills

-- of a maximum matching, where the diagonal is not full
pub tells_any : (a : Matrix) (m : List Place) (size : ℕ) (old_rows rows old_columns columns : List ℕ) → ¬ IsDiagonalFull a → IsMaximum a m → size ≡ length m → Fills old_rows rows (AreRowsOf m rows) → Fills old_columns columns (AreColumnsOf m columns) → TellsMatching a false size old_rows rows old_columns columns
tells_any a m size old_rows rows old_columns columns not_full max is of_columns of_rows = record {
  pairs = m;
  are_pairs = max;
  size_is = is;
  diagonal = λ least full. absurd (not_full full);
  rows_are = of_columns;
  columns_are = of_rows;
}

-- of one of the transpose, with the lists exchanged
pub tells_turned : (a : Matrix) (m : List Place) (size : ℕ) (old_rows rows old_columns columns : List ℕ) → ¬ IsDiagonalFull (transpose a) → IsMaximum a m → size ≡ length m → Fills old_rows rows (AreColumnsOf m rows) → Fills old_columns columns (AreRowsOf m columns) → TellsMatching (transpose a) false size old_rows rows old_columns columns
tells_turned a m size old_rows rows old_columns columns not_full max is of_columns of_rows = tells_any (transpose a) (transposed_places m) size old_rows rows old_columns columns not_full (turned_maximum a (transpose a) m (transpose_is a) max) (is ∙ sym (turned_length m)) of_columns (twice_turned m old_columns columns of_rows)

-- what holds where there is none
pub where_none : {X : Type 0} (P : Type 0) (o : Option X) → ((x : X) → o ≡ Some x → ⊥) → IfNone o P → P
where_none P None not_some holds = holds
where_none P (Some x) not_some holds = absurd (not_some x refl)

-- what a search found in a matrix whose diagonal is not full
pub search_told : (a p : Matrix) (m : Pairing) (marks : Option OuterMarks) → p ≡ a → ¬ IsDiagonalFull a → IsMaximumOf p m → IfSome marks (AreOuterMarks p) → IsSearchOf a (record { pattern = p; matching = m; marks = marks })
search_told a p m marks is not_full max known = record {
  pattern_is = is;
  maximum = subst (λ (b : Matrix). IsMaximumOf b m) is max;
  diagonal = λ full. absurd (not_full full);
  marks_are = subst (λ (b : Matrix). IfSome marks (AreOuterMarks b)) is known;
}
