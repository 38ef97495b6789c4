-- New prices that are looked at on every entry.
use Rattle.std.proofs.Common.{◌≡◌, ◌∙◌, ℕ, slice_index, ◌+◌, ◌<◌, ◌≤◌, List, [], ◌∷◌, ◌++◌, length, map, take, get_or, sym, ap, subst, below_more, arith}
use Rattle.std.proofs.Math.Decide.{dec_lt}
use Rattle.std.proofs.lemmas.List.{get_or-map, get_or_past, get_or_read, length-map, map_more, take_all}
use Rattle.bip_defs.specs.Lists.{Among, AreDistinct, Lists}
use Rattle.bip_defs.specs.Matching.{cols_of, rows_of}
use Rattle.bip_defs.specs.Matrix.{IsEntry, Matrix, Place, cols, column}
use Rattle.bip_defs.proofs.Sets.{entry_col, one_row, place_among}
use Rattle.bip_graph.specs.Matching.{IsMatchingOf, Pairing}
use Rattle.integer_diagonal.proofs.AnswerLemmas.{matching_of}
use Rattle.integer_diagonal.proofs.Cheap.{entry_cheap}
use Rattle.integer_diagonal.proofs.ScanLemmas.{row_entry}
use Rattle.integer_diagonal.specs.Candidates.{IsCandidate, IsFairColumn, IsFairEntry}
use Rattle.integer_diagonal.specs.Duals.{IsAssigned, Priced, dual, paid}
use Rattle.sp_pattern.specs.Weights.{Weighing, weight_at}

-- the entry at a place of a column, and its weight
pub entry_at : (x : Priced) (a : Matrix) (c k : ℕ) (rows weights : List ℕ) (r row : ℕ) → x.weighing.matrix ≡ a → Lists (λ s. IsEntry a s c) rows → rows ≡ column a c → length weights ≡ length (column x.weighing.matrix c) → ((j : ℕ) → j < length weights → slice_index weights j ≡ weight_at x.weighing (slice_index (column x.weighing.matrix c) j) c) → k < length rows → r ≡ get_or rows k r → row ≡ r → IsEntry x.weighing.matrix row c × (slice_index weights k ≡ weight_at x.weighing row c) × (row ≡ slice_index rows k)
entry_at x a c k rows weights r row same lists rows_are long each lt e is =
    let read : row ≡ slice_index rows k = is ∙ get_or_read rows k r lt e 0 in
    let all : rows ≡ column x.weighing.matrix c = rows_are ∙ ap (λ (z : Matrix). column z c) (sym same) in
    let size = ap (λ (z : List ℕ). length z) all in
    let inside : k < length weights = omega (arith, long, size, lt) in
    (row_entry a x.weighing.matrix c rows k r row same lists lt e is, each k inside ∙ ap (λ z. weight_at x.weighing z c) (sym (read ∙ ap (λ (z : List ℕ). slice_index z k) all)), read)

-- no number of a list is greater, within its length and past it
pub all_at_most : (xs : List ℕ) (most : ℕ) → ((k : ℕ) → k < length xs → slice_index xs k ≤ most) → (k : ℕ) → slice_index xs k ≤ most
all_at_most xs most low k = by (dec_lt k (length xs))
  where
    by : Dec (k < length xs) → slice_index xs k ≤ most
    by (yes lt) = low k lt
    by (no ge) = let past = get_or_past xs k 0 (omega arith) in omega (arith, past)

-- the same of numbers that are higher
pub all_risen : (xs ys : List ℕ) (rise most : ℕ) → ys ≡ map (λ a. a + rise) xs → ((k : ℕ) → slice_index xs k + rise ≤ most) → (k : ℕ) → slice_index ys k ≤ most
all_risen xs ys rise most is low = all_at_most ys most (λ k lt. (let long = ap (λ (z : List ℕ). length z) is ∙ length-map xs (λ a. a + rise) in let here = ap (λ (z : List ℕ). slice_index z k) is ∙ get_or-map (λ a. a + rise) xs k 0 0 (omega (arith, lt, long)) in let bound = low k in omega (arith, here, bound)))

-- a list that is written from another, by one place more
pub mapped_push : {X Y : Type 0} (f : X → Y) (xs : List X) (ys new : List Y) (i : ℕ) (x : X) (y : Y) → i < length xs → x ≡ get_or xs i x → ys ≡ map f (take i xs) → y ≡ f x → new ≡ ys ++ y ∷ [] → new ≡ map f (take (i + 1) xs)
mapped_push f xs ys new i x y lt is old value pushed = pushed ∙ ap (λ z. z ++ y ∷ []) old ∙ ap (λ z. map f (take i xs) ++ z ∷ []) (value ∙ ap f is) ∙ sym (map_more f xs i x lt)

-- all places of the other have been written
pub mapped_all : {X Y : Type 0} (f : X → Y) (xs : List X) (ys : List Y) (i : ℕ) → length xs ≤ i → ys ≡ map f (take i xs) → ys ≡ map f xs
mapped_all f xs ys i past is = is ∙ ap (λ z. map f z) (take_all i xs past)

-- a candidate whose columns are fair is an assignment
pub fair_assigned : (x : Priced) (m : Pairing) → IsCandidate x m → ((c : ℕ) → c < cols x.weighing.matrix → IsFairColumn x m.pairs c) → IsAssigned x m
fair_assigned x m k fair = record {
  rows_are = k.matching.rows;
  cols_are = k.matching.cols;
  feasible = record {
    prices_are = k.prices_are;
    duals_are = k.duals_are;
    small = k.small;
    covers = λ r c e. (fair c (entry_col x.weighing.matrix r c e) r e).0;
  };
  matching = record {
    entries = λ r c h. (let e = k.matching.matching.entries r c h in entry_cheap x r c e ((fair c (entry_col x.weighing.matrix r c e) r e).1 h));
    rows_differ = k.matching.matching.rows_differ;
    cols_differ = k.matching.matching.cols_differ;
  };
  bounded = record {
    free_rows = λ r off. k.prices r;
    free_cols = λ c off. k.duals c;
    prices = λ r. (let low = k.prices r in omega (arith, low));
  };
}

-- all places of a column have been looked at
pub fair_column : (x : Priced) (m : List Place) (a : Matrix) (c k : ℕ) (rows : List ℕ) → x.weighing.matrix ≡ a → rows ≡ column a c → length rows ≤ k → ((j : ℕ) → j < k → IsFairEntry x m (slice_index rows j) c) → IsFairColumn x m c
fair_column x m a c k rows same rows_are long part r e =
    let (j, within, at) = place_among r 0 rows (subst (λ (z : List ℕ). Among r z) (sym (rows_are ∙ ap (λ (z : Matrix). column z c) (sym same))) e.1) in
    subst (λ z. IsFairEntry x m z c) at (part j (omega (arith, within, long)))

-- one more
pub fair_more : (x : Priced) (m : List Place) (c k row paid_is dual_is : ℕ) (rows : List ℕ) → ((j : ℕ) → j < k → IsFairEntry x m (slice_index rows j) c) → row ≡ slice_index rows k → paid_is ≡ paid x row c → dual_is ≡ dual x c → dual_is ≤ paid_is → (Among (row, c) m → paid_is ≡ dual_is) → (j : ℕ) → j < k + 1 → IsFairEntry x m (slice_index rows j) c
fair_more x m c k row paid_is dual_is rows part read p d covers meets =
    below_more (λ j. IsFairEntry x m (slice_index rows j) c) k part
    (subst (λ z. IsFairEntry x m z c) read (omega (arith, p, d, covers), λ h. sym p ∙ meets h ∙ d))

-- new prices and dual variables of an assignment make a candidate
pub candidate_of : (x y : Priced) (m : Pairing) → IsAssigned x m → y.weighing ≡ x.weighing → x.top ≤ y.top → length y.prices ≡ x.weighing.matrix.rows → length y.duals ≡ cols x.weighing.matrix → ((r : ℕ) → slice_index y.prices r ≤ y.top) → ((c : ℕ) → dual y c ≤ y.top + y.top) → IsCandidate y m
candidate_of x y m a same higher prices_are duals_are prices duals = record {
  matching = subst (λ (w : Weighing). IsMatchingOf w.matrix m) (sym same) (matching_of x m a);
  small = subst (λ (w : Weighing). (r c : ℕ) → IsEntry w.matrix r c → weight_at w r c ≤ y.top) (sym same) (λ r c e. (let low = a.feasible.small r c e in omega (arith, low, higher)));
  prices_are = prices_are ∙ ap (λ (w : Weighing). w.matrix.rows) (sym same);
  duals_are = duals_are ∙ ap (λ (w : Weighing). cols w.matrix) (sym same);
  prices = prices;
  duals = duals;
}

-- an assignment without pairs makes a candidate with any other matching
pub free_candidate : (x : Priced) (m n : Pairing) → IsAssigned x m → m.pairs ≡ [] → IsMatchingOf x.weighing.matrix n → IsCandidate x n
free_candidate x m n a none k = record {
  matching = k;
  small = a.feasible.small;
  prices_are = a.feasible.prices_are;
  duals_are = a.feasible.duals_are;
  prices = λ r. a.bounded.free_rows r (λ h. absurd (subst (λ (z : List Place). Among r (rows_of z)) none h));
  duals = λ c. a.bounded.free_cols c (λ h. absurd (subst (λ (z : List Place). Among c (cols_of z)) none h));
}

-- the number that stands for a column's mate
pub mate_is : (m : List Place) (r s c mate : ℕ) → AreDistinct (cols_of m) → Among (r, c) m → mate ≡ r → Among (s, c) m → mate ≡ s
mate_is m r s c mate differ pair is other = is ∙ one_row m differ r s c pair other
