-- A matching that is being completed.
use Rattle.std.proofs.Common.{◌≡◌, ◌⊎◌, ◌↔◌, ◌∙◌, ℕ, ◌+◌, ◌<◌, ◌≤◌, ◌∷◌, length, refl, sym, ap, subst, inl, inr, ⊎_elim, arith, Option, None, Some, IfSome, IfNone, true, false, true≢false}
use Rattle.std.specs.Option.{is_some}
use Rattle.std.proofs.Math.Decide.{dec_lt}
use Rattle.std.proofs.lemmas.List.{length-map}
use Rattle.bip_defs.specs.Lists.{Among}
use Rattle.bip_defs.specs.Matching.{cols_of, rows_of}
use Rattle.bip_defs.specs.Matrix.{Matrix, Place, cols}
use Rattle.bip_defs.specs.Once.{ListsOnce}
use Rattle.bip_defs.proofs.Exchange.{adds_pair}
use Rattle.bip_defs.proofs.Full.{all_below}
use Rattle.bip_defs.proofs.Sets.{col_among, col_pair, number_same, rising_distinct, row_among, row_pair}
use Rattle.bip_graph.specs.Matching.{IsMaximumOf, IsPairing, Pairing}
use Rattle.filled_columns.specs.Completed.{AreTaken, Completes, IsFirstFree}
use Rattle.filled_columns.specs.Filled.{IsFullPairing}
use Rattle.filled_columns.proofs.FullPairings.{once_from, once_length}

-- The search for an unmatched row.

pub taken_start : (m : Pairing) (n : ℕ) → AreTaken m n n
taken_start m n r le lt = absurd (omega (arith, le, lt))

pub taken_more : (m : Pairing) (from to : ℕ) → AreTaken m from to → Among to (rows_of m.pairs) → AreTaken m from (to + 1)
taken_more m from to k h r le lt = ⊎_elim (λ (e : r ≡ to). subst (λ z. Among z (rows_of m.pairs)) (sym e) h) (λ ne. k r le (omega (arith, lt, ne))) (number_same r to)

-- and rows that end before
pub taken_wide : (m : Pairing) (from to end : ℕ) → AreTaken m from to → end ≤ to → AreTaken m from end
taken_wide m from to end k le r after before = k r after (omega (arith, before, le))

-- What is known on the way.

-- a pair that came in on the way: of a row and a column that had none, both before where the search stands
pub record IsNew (old : Pairing) (from col : ℕ) (p : Place) : Type 0 where
  pub row : p.0 < from
  pub column : p.1 < col
  pub row_free : ¬ Among p.0 (rows_of old.pairs)
  pub col_free : ¬ Among p.1 (cols_of old.pairs)

pub record IsUnderWay (old now : Pairing) (from col : ℕ) : Type 0 where
  pub rows_same : now.rows ≡ old.rows
  pub cols_same : now.cols ≡ old.cols
  pub pairing : IsPairing now
  pub rows_done : AreTaken now 0 from
  pub cols_done : (c : ℕ) → c < col → Among c (cols_of now.pairs)
  pub keeps : (p : Place) → Among p old.pairs → Among p now.pairs
  pub new : (p : Place) → Among p now.pairs → ¬ Among p old.pairs → IsNew old from col p
  pub in_step : (p q : Place) → Among p now.pairs → Among q now.pairs → ¬ Among p old.pairs → ¬ Among q old.pairs → p.0 < q.0 → p.1 < q.1

pub start : (m : Pairing) → IsPairing m → IsUnderWay m m 0 0
start m k = record {
  rows_same = refl;
  cols_same = refl;
  pairing = k;
  rows_done = taken_start m 0;
  cols_done = λ c lt. absurd (omega (arith, lt));
  keeps = λ p h. h;
  new = λ p h nh. absurd (nh h);
  in_step = λ p q h g nh ng lt. absurd (nh h);
}

wider : (old : Pairing) (from to col : ℕ) (p : Place) → from ≤ to → IsNew old from col p → IsNew old to (col + 1) p
wider old from to col p le k = record { row = let lt = k.row in omega (arith, lt, le); column = let lt = k.column in omega (arith, lt); row_free = k.row_free; col_free = k.col_free }

-- past a column that has a pair
pub past : (old now : Pairing) (from col : ℕ) → IsUnderWay old now from col → Among col (cols_of now.pairs) → IsUnderWay old now from (col + 1)
past old now from col k h = record {
  rows_same = k.rows_same;
  cols_same = k.cols_same;
  pairing = k.pairing;
  rows_done = k.rows_done;
  cols_done = λ c lt. ⊎_elim (λ (e : c ≡ col). subst (λ z. Among z (cols_of now.pairs)) (sym e) h) (λ ne. k.cols_done c (omega (arith, lt, ne))) (number_same c col);
  keeps = k.keeps;
  new = λ p g ng. wider old from from col p (omega arith) (k.new p g ng);
  in_step = k.in_step;
}

-- Where a pair comes in.
module _ (old now next : Pairing) (from row col : ℕ) (k : IsUnderWay old now from col) (first : IsFirstFree now from row) (col_free : ¬ Among col (cols_of now.pairs))
    (rows_same : next.rows ≡ now.rows) (cols_same : next.cols ≡ now.cols) (added : (p : Place) → Among p next.pairs ↔ ((p ≡ (row, col)) ⊎ Among p now.pairs)) (pairing : IsPairing next) where
  here : Among (row, col) next.pairs
  here = (added (row, col)).1 (inl refl)

  row_stays : (r : ℕ) → Among r (rows_of now.pairs) → Among r (rows_of next.pairs)
  row_stays r h = let (c, g) = row_pair r now.pairs h in row_among r c next.pairs ((added (r, c)).1 (inr g))

  col_stays : (c : ℕ) → Among c (cols_of now.pairs) → Among c (cols_of next.pairs)
  col_stays c h = let (r, g) = col_pair c now.pairs h in col_among r c next.pairs ((added (r, c)).1 (inr g))

  rows_done : AreTaken next 0 (row + 1)
  rows_done r le lt = by (number_same r row) (dec_lt r from)
    where
      by : (r ≡ row) ⊎ (¬ (r ≡ row)) → Dec (r < from) → Among r (rows_of next.pairs)
      by (inl e) d = subst (λ z. Among z (rows_of next.pairs)) (sym e) (row_among row col next.pairs here)
      by (inr ne) (yes below) = row_stays r (k.rows_done r le below)
      by (inr ne) (no after) = row_stays r (first.before r (omega arith) (omega (arith, lt, ne)))

  pair_new : IsNew old (row + 1) (col + 1) (row, col)
  pair_new = record {
    row = omega arith;
    column = omega arith;
    row_free = λ h. let (c, g) = row_pair row old.pairs h in first.free (row_among row c now.pairs (k.keeps (row, c) g));
    col_free = λ h. let (r, g) = col_pair col old.pairs h in col_free (col_among r col now.pairs (k.keeps (r, col) g));
  }

  new_pairs : (p : Place) → Among p next.pairs → ¬ Among p old.pairs → IsNew old (row + 1) (col + 1) p
  new_pairs p h nh = ⊎_elim (λ (e : p ≡ (row, col)). subst (λ (q : Place). IsNew old (row + 1) (col + 1) q) (sym e) pair_new) (λ g. wider old from (row + 1) col p (let after = first.after in omega (arith, after)) (k.new p g nh)) ((added p).0 h)

  in_step : (p q : Place) → Among p next.pairs → Among q next.pairs → ¬ Among p old.pairs → ¬ Among q old.pairs → p.0 < q.0 → p.1 < q.1
  in_step p q h g nh ng lt = by ((added p).0 h) ((added q).0 g)
    where
      by : (p ≡ (row, col)) ⊎ Among p now.pairs → (q ≡ (row, col)) ⊎ Among q now.pairs → p.1 < q.1
      by (inr x) (inr y) = k.in_step p q x y nh ng lt
      by (inr x) (inl f) = let below = (k.new p x nh).column in let e = ap (λ (z : Place). z.1) f in omega (arith, below, e)
      by (inl e) (inr y) = let below = (k.new q y ng).row in let after = first.after in let same = ap (λ (z : Place). z.0) e in absurd (omega (arith, below, after, same, lt))
      by (inl e) (inl f) = let same = ap (λ (z : Place). z.0) e in let other = ap (λ (z : Place). z.0) f in absurd (omega (arith, same, other, lt))

  pub paired : IsUnderWay old next (row + 1) (col + 1)
  paired = record {
    rows_same = rows_same ∙ k.rows_same;
    cols_same = cols_same ∙ k.cols_same;
    pairing = pairing;
    rows_done = rows_done;
    cols_done = λ c lt. ⊎_elim (λ (e : c ≡ col). subst (λ z. Among z (cols_of next.pairs)) (sym e) (col_among row col next.pairs here)) (λ ne. col_stays c (k.cols_done c (omega (arith, lt, ne)))) (number_same c col);
    keeps = λ p h. (added p).1 (inr (k.keeps p h));
    new = new_pairs;
    in_step = in_step;
  }

-- The columns of a square matching are all matched where its rows are.

pub columns_taken : (m : Pairing) → IsPairing m → m.rows ≡ m.cols → AreTaken m 0 m.rows → (c : ℕ) → c < m.cols → Among c (cols_of m.pairs)
columns_taken m k square all c lt =
    let rows : length (rows_of m.pairs) ≡ m.rows = once_length m.rows (rows_of m.pairs) (record { distinct = k.rows_differ; sound = λ r h. let (d, g) = row_pair r m.pairs h in k.rows_within r d g; complete = λ r below. all r (omega arith) below }) in
    let by_rows = length-map m.pairs (λ (p : Place). p.0) in
    let by_cols = length-map m.pairs (λ (p : Place). p.1) in
    all_below m.cols (cols_of m.pairs) (rising_distinct (cols_of m.pairs) k.cols_rise) (λ x h. let (r, g) = col_pair x m.pairs h in k.cols_within r x g) (omega (arith, rows, by_rows, by_cols, square)) c lt

-- no row is left for an unmatched column
pub none_left : (old now : Pairing) (from col : ℕ) → IsUnderWay old now from col → old.rows ≡ old.cols → AreTaken now from now.rows → ¬ Among col (cols_of now.pairs) → ¬ (col < now.cols)
none_left old now from col k square rest free lt = free (columns_taken now k.pairing (k.rows_same ∙ square ∙ sym k.cols_same) (λ r le below. by r le below (dec_lt r from)) col lt)
  where
    by : (r : ℕ) → 0 ≤ r → r < now.rows → Dec (r < from) → Among r (rows_of now.pairs)
    by r le below (yes before) = k.rows_done r le before
    by r le below (no after) = rest r (omega arith) below

-- The end.

module _ (old now : Pairing) (from : ℕ) (square : old.rows ≡ old.cols) (k : IsUnderWay old now from now.cols) (a : Matrix) (rows_are : old.rows ≡ a.rows) (cols_are : old.cols ≡ cols a) where
  now_rows : now.rows ≡ a.rows
  now_rows = k.rows_same ∙ rows_are

  now_cols : now.cols ≡ cols a
  now_cols = k.cols_same ∙ cols_are

  columns_once : ListsOnce (λ c. c < cols a) (cols_of now.pairs)
  columns_once = subst (λ n. ListsOnce (λ c. c < n) (cols_of now.pairs)) now_cols (record { distinct = rising_distinct (cols_of now.pairs) k.pairing.cols_rise; sound = λ c h. let (r, g) = col_pair c now.pairs h in k.pairing.cols_within r c g; complete = k.cols_done })

  rows_once : ListsOnce (λ r. r < a.rows) (rows_of now.pairs)
  rows_once =
      let count = once_length (cols a) (cols_of now.pairs) columns_once in
      let by_rows = length-map now.pairs (λ (p : Place). p.0) in
      let by_cols = length-map now.pairs (λ (p : Place). p.1) in
      once_from a.rows (rows_of now.pairs) k.pairing.rows_differ (λ r h. let (c, g) = row_pair r now.pairs h in subst (λ n. r < n) now_rows (k.pairing.rows_within r c g)) (omega (arith, count, by_rows, by_cols, square, rows_are, cols_are))

  pub full : IsFullPairing a now
  full = record { rows_are = now_rows; cols_are = now_cols; square = sym rows_are ∙ square ∙ cols_are; rows = rows_once; columns = columns_once }

  pub completes : IsMaximumOf a old → Completes a old.pairs now.pairs
  completes max = record {
    rows = rows_once;
    columns = columns_once;
    keeps = k.keeps;
    no_entries = λ p h nh e. let new = k.new p h nh in let more = max.maximum.longest ((p.0, p.1) ∷ old.pairs) (adds_pair a p.0 p.1 old.pairs max.maximum.matching e new.row_free new.col_free) in omega (arith, more);
    in_step = k.in_step;
  }

-- Options that were tested.

pub some_has : {X : Type 0} {P : X → Type 0} (o : Option X) → IfSome o P → is_some o ≡ true → (x : X) × P x
some_has None h e = absurd (true≢false (sym e))
some_has (Some x) h e = (x, h)

pub none_has : {X Q : Type 0} (o : Option X) → IfNone o Q → is_some o ≡ false → Q
none_has None h e = h
none_has (Some x) h e = absurd (true≢false e)
