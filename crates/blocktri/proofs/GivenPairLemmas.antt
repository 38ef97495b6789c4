-- Pairs that are given one by one.
use Rattle.std.proofs.Common.{◌≡◌, ◌≢◌, ◌⊎◌, ◌↔◌, ◌∙◌, ℕ, ◌+◌, ◌<◌, ◌^◌, List, [], length, get_or, refl, sym, ap, arith, subst, inl, inr, ⊎_elim}
use Rattle.std.proofs.lemmas.List.{length-map}
use Rattle.bip_defs.specs.Lists.{Among}
use Rattle.bip_defs.specs.Matching.{cols_of, rows_of}
use Rattle.bip_defs.specs.Matrix.{Matrix, Place, cols}
use Rattle.bip_defs.specs.Once.{ListsOnce}
use Rattle.bip_defs.proofs.Full.{all_below}
use Rattle.bip_defs.proofs.Sets.{col_among, col_pair, number_same, rising_distinct, row_among, row_pair}
use Rattle.bip_graph.specs.Matching.{IsPairing, Pairing}
use Rattle.blocktri.specs.GivenOrders.{ArePairsOf, AreOwnRows, IsNotOwnRow, IsFreeRow, IsOwnRow}
use Rattle.blocktri.proofs.WriteLemmas.{once_long}
use Rattle.filled_columns.specs.Filled.{IsFullPairing}

-- the pairs are those of the first n columns, whose numbers are right
pub record ArePairedBelow (rows n : ℕ) (xs : List ℕ) (m : Pairing) : Type 0 where
  pub rows_same : m.rows ≡ rows
  pub cols_same : m.cols ≡ rows
  pub right : AreOwnRows rows xs n
  pub pairs : (r c : ℕ) → Among (r, c) m.pairs ↔ ((c < n) × (get_or xs c 0 ≡ r))

pub none_paired : (rows : ℕ) (xs : List ℕ) → ArePairedBelow rows 0 xs (record { rows = rows; cols = rows; pairs = [] })
none_paired rows xs = record {
  rows_same = refl;
  cols_same = refl;
  right = λ c lt. absurd (omega (arith, lt));
  pairs = λ r c. (λ h. elim h [ ], λ told. let lt = told.0 in absurd (omega (arith, lt)));
}

-- a number that is right at the next place is that of a row without a mate
pub free_if_right : (rows n : ℕ) (xs : List ℕ) (m : Pairing) (number : ℕ) → ArePairedBelow rows n xs m → number ≡ get_or xs n 0 → IsOwnRow rows xs n → IsFreeRow m number
free_if_right rows n xs m number are is right = (
  let lt = right.below in let of = are.rows_same in omega (arith, lt, of, is),
  λ h. let (d, p) = row_pair number m.pairs h in let (lt, e) = (are.pairs number d).0 p in right.new d lt (e ∙ is),
)

pub right_if_free : (rows n : ℕ) (xs : List ℕ) (m : Pairing) (number : ℕ) → ArePairedBelow rows n xs m → number ≡ get_or xs n 0 → IsFreeRow m number → IsOwnRow rows xs n
right_if_free rows n xs m number are is free = record {
  below = let lt = free.0 in let of = are.rows_same in omega (arith, lt, of, is);
  new = λ d lt e. free.1 (row_among number d m.pairs ((are.pairs number d).1 (lt, e ∙ sym is)));
}

pub bad_told : (rows n : ℕ) (xs : List ℕ) (m : Pairing) (number : ℕ) → ArePairedBelow rows n xs m → number ≡ get_or xs n 0 → n < length xs → ¬ IsFreeRow m number → IsNotOwnRow rows xs n
bad_told rows n xs m number are is lt taken = record { within = lt; before = are.right; wrong = λ right. taken (free_if_right rows n xs m number are is right) }

pub next_col_free : (rows n : ℕ) (xs : List ℕ) (m : Pairing) → ArePairedBelow rows n xs m → ¬ Among n (cols_of m.pairs)
next_col_free rows n xs m are h = let (r, p) = col_pair n m.pairs h in let lt = ((are.pairs r n).0 p).0 in omega (arith, lt)

-- one pair more
pub paired_more : (rows n : ℕ) (xs : List ℕ) (old new : Pairing) (number : ℕ) → ArePairedBelow rows n xs old → number ≡ get_or xs n 0 → IsFreeRow old number → new.rows ≡ old.rows → new.cols ≡ old.cols → ((p : Place) → Among p new.pairs ↔ ((p ≡ (number, n)) ⊎ Among p old.pairs)) → ArePairedBelow rows (n + 1) xs new
paired_more rows n xs old new number are is free rows_same cols_same grown = record {
  rows_same = rows_same ∙ are.rows_same;
  cols_same = cols_same ∙ are.cols_same;
  right = λ c lt. ⊎_elim (λ (e : c ≡ n). subst (λ k. IsOwnRow rows xs k) (sym e) (right_if_free rows n xs old number are is free)) (λ (ne : c ≢ n). are.right c (omega (arith, lt, ne))) (number_same c n);
  pairs = λ r c. (
    λ (h : Among (r, c) new.pairs). ⊎_elim (λ (e : (r, c) ≡ (number, n)). let row = ap (λ (p : Place). p.0) e in let col = ap (λ (p : Place). p.1) e in (omega (arith, col), ap (λ k. get_or xs k 0) col ∙ sym is ∙ sym row)) (λ (k : Among (r, c) old.pairs). let (lt, e) = (are.pairs r c).0 k in (omega (arith, lt), e)) ((grown (r, c)).0 h),
    λ (told : (c < n + 1) × (get_or xs c 0 ≡ r)). ⊎_elim (λ (e : c ≡ n). (grown (r, c)).1 (inl (λ i. ((sym told.1 ∙ ap (λ k. get_or xs k 0) e ∙ sym is) i, e i)))) (λ (ne : c ≢ n). (grown (r, c)).1 (inr ((are.pairs r c).1 (let lt = told.0 in omega (arith, lt, ne), told.1)))) (number_same c n),
  );
}

-- All pairs.

pub pairs_all : (rows n : ℕ) (xs : List ℕ) (m : Pairing) → ArePairedBelow rows n xs m → n ≡ length xs → rows < 2 ^ 32 → ArePairsOf rows xs m
pairs_all rows n xs m are all few = record {
  right = λ c lt. are.right c (omega (arith, lt, all));
  pairs = λ r c. (
    λ (h : Among (r, c) m.pairs). let (lt, e) = (are.pairs r c).0 h in let below = (are.right c lt).below in (omega (arith, lt, all), e, λ none_is. omega (arith, below, e, none_is, few)),
    λ told. let (lt, e, some) = told in (are.pairs r c).1 (omega (arith, lt, all), e),
  );
}

pub pairs_full : (rows : ℕ) (xs : List ℕ) (m : Pairing) → ArePairedBelow rows rows xs m → IsPairing m → (a : Matrix) → a.rows ≡ rows → cols a ≡ rows → IsFullPairing a m
pairs_full rows xs m are pairing a high broad = record {
  rows_are = are.rows_same ∙ sym high;
  cols_are = are.cols_same ∙ sym broad;
  square = high ∙ sym broad;
  rows = record {
    distinct = pairing.rows_differ;
    sound = below_row;
    complete = all_below a.rows (rows_of m.pairs) pairing.rows_differ below_row (omega (arith, long, high, broad, over_rows, over_cols));
  };
  columns = columns;
}
  where
    below_row : (r : ℕ) → Among r (rows_of m.pairs) → r < a.rows
    below_row r h = let (c, p) = row_pair r m.pairs h in let lt = pairing.rows_within r c p in let same = are.rows_same in omega (arith, lt, same, high)

    columns : ListsOnce (λ c. c < cols a) (cols_of m.pairs)
    columns = record {
      distinct = rising_distinct (cols_of m.pairs) pairing.cols_rise;
      sound = λ c h. let (r, p) = col_pair c m.pairs h in let lt = pairing.cols_within r c p in let same = are.cols_same in omega (arith, lt, same, broad);
      complete = λ c lt. col_among (get_or xs c 0) c m.pairs ((are.pairs (get_or xs c 0) c).1 (omega (arith, lt, broad), refl));
    }

    long : length (cols_of m.pairs) ≡ cols a
    long = once_long (cols a) (cols_of m.pairs) columns

    over_rows : length (rows_of m.pairs) ≡ length m.pairs
    over_rows = length-map m.pairs (λ (p : Place). p.0)

    over_cols : length (cols_of m.pairs) ≡ length m.pairs
    over_cols = length-map m.pairs (λ (p : Place). p.1)
