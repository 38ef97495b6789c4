-- Pairs that a caller gives.
use Rattle.std.proofs.Common.{◌≡◌, ◌≢◌, ◌⊎◌, ◌↔◌, ◌∙◌, ℕ, ◌+◌, ◌-◌, ◌<◌, ◌≤◌, Bool, true, false, IfSome, IsTrue, List, Option, None, Some, length, get_or, ap, arith, inl, inr, is_some, refl, subst, sym, true≢false, ⊎_elim}
use Rattle.std.proofs.Math.Decide.{dec_lt}
use Rattle.bip_defs.specs.Lists.{Among}
use Rattle.bip_defs.specs.Matching.{Covers, IsMatching, IsMaximum, cols_of, rows_of}
use Rattle.bip_defs.specs.Matrix.{AreEntries, IsEntry, Matrix, Place, cols}
use Rattle.bip_defs.specs.Pieces.{piece}
use Rattle.bip_defs.proofs.Sets.{col_among, col_pair, entry_col, number_same, row_among, row_pair}
use Rattle.bip_defs.proofs.Slices.{slice_none}
use Rattle.bip_graph.specs.Answers.{IsMaximumOrLeast}
use Rattle.bip_graph.specs.Matching.{IsPairing, Pairing, none}
use Rattle.blocktri.specs.Answers.{TellsMatching}
use Rattle.blocktri.specs.Compressed.{CompressedLists, listed, matrix_given, pick}
use Rattle.blocktri.specs.GivenPairs.{AreRightPairs, IsGivenIn, IsRightPair, TellsMatchingFrom, lists_matched}
use Rattle.blocktri.proofs.CompressedLemmas.{given_entries}
use Rattle.blocktri.proofs.LookLemmas.{cols_matched_maximum, columns_more, entries_more, look_matching, rows_matched_maximum}
use Rattle.blocktri.proofs.MatchedLemmas.{rows_all}
use Rattle.blocktri.proofs.WriteLemmas.{AreRowsBelow}

-- Entries.

-- an entry of the matrix that is given, told by that of the lists
pub entry_listed : (l : CompressedLists) (b v : Bool) (r c : ℕ) → l.by_rows ≡ b → IsTrue v ↔ IsEntry (listed l) (pick b c r) (pick b r c) → IsTrue v ↔ IsEntry (matrix_given l) r c
entry_listed l b v r c is told = (
  λ yes. (given_entries l r c).1 (subst (λ (z : Bool). IsEntry (listed l) (pick z c r) (pick z r c)) (sym is) (told.0 yes)),
  λ e. told.1 (subst (λ (z : Bool). IsEntry (listed l) (pick z c r) (pick z r c)) is ((given_entries l r c).0 e)),
)

-- Pairs, one by one.

-- the pairs of the first n columns, which are right
pub record IsPairedBelow (a : Matrix) (xs : List ℕ) (n : ℕ) (m : List Place) : Type 0 where
  pub entries : AreEntries a m
  pub before : (c : ℕ) → Among c (cols_of m) → c < n
  pub right : AreRightPairs a xs n
  pub rows_are : AreRowsBelow n m xs

right_more : (a : Matrix) (xs : List ℕ) (n : ℕ) → AreRightPairs a xs n → IsRightPair a xs n → AreRightPairs a xs (n + 1)
right_more a xs n before here c lt = ⊎_elim (λ (e : c ≡ n). subst (IsRightPair a xs) (sym e) here) (λ (ne : ¬ (c ≡ n)). before c (omega (arith, lt, ne))) (number_same c n)

-- a column without a row
pub paired_none : (a : Matrix) (xs : List ℕ) (n : ℕ) (m : List Place) → get_or xs n 0 ≡ none → IsPairedBelow a xs n m → IsPairedBelow a xs (n + 1) m
paired_none a xs n m empty p = record {
  entries = p.entries;
  before = λ c h. let lt = p.before c h in omega (arith, lt);
  right = right_more a xs n p.right (record { entry = λ some. absurd (some empty); once = λ d lt same. empty });
  rows_are = λ r c lt. ⊎_elim (λ (e : c ≡ n). here r c e) (λ (ne : ¬ (c ≡ n)). p.rows_are r c (omega (arith, lt, ne))) (number_same c n);
}
  where
    here : (r c : ℕ) → c ≡ n → Among (r, c) m ↔ ((get_or xs c 0 ≡ r) × (r ≢ none))
    here r c e = (
      λ h. let lt = p.before c (col_among r c m h) in absurd (omega (arith, lt, e)),
      λ told. absurd (told.1 (sym told.0 ∙ ap (λ i. get_or xs i 0) e ∙ empty)),
    )

-- a column with a right pair
pub paired_more : (a : Matrix) (xs : List ℕ) (n row : ℕ) (old new : List Place) → row ≡ get_or xs n 0 → row ≢ none → (¬ Among row (rows_of old)) × IsEntry a row n → ((p : Place) → Among p new ↔ ((p ≡ (row, n)) ⊎ Among p old)) → IsPairedBelow a xs n old → IsPairedBelow a xs (n + 1) new
paired_more a xs n row old new is some (free, entry) grown p = record {
  entries = entries_more a old new row n grown entry p.entries;
  before = columns_more old new row n grown p.before;
  right = right_more a xs n p.right (record {
    entry = λ wanted. subst (λ r. IsEntry a r n) is entry;
    once = λ d lt same. absurd (free (row_among row d old ((p.rows_are row d lt).1 (same ∙ sym is, some))));
  });
  rows_are = λ r c lt. ⊎_elim (λ (e : c ≡ n). here r c e) (λ (ne : ¬ (c ≡ n)). there r c lt ne) (number_same c n);
}
  where
    here : (r c : ℕ) → c ≡ n → Among (r, c) new ↔ ((get_or xs c 0 ≡ r) × (r ≢ none))
    here r c e = (
      λ (h : Among (r, c) new). ⊎_elim (λ (f : (r, c) ≡ (row, n)). let same : r ≡ row = ap (λ (q : Place). q.0) f in (ap (λ i. get_or xs i 0) e ∙ sym is ∙ sym same, λ (g : r ≡ none). some (sym same ∙ g))) (λ (k : Among (r, c) old). let lt = p.before c (col_among r c old k) in absurd (omega (arith, lt, e))) ((grown (r, c)).0 h),
      λ told. (grown (r, c)).1 (inl (λ i. ((sym told.0 ∙ ap (λ j. get_or xs j 0) e ∙ sym is) i, e i))),
    )

    there : (r c : ℕ) → c < n + 1 → c ≢ n → Among (r, c) new ↔ ((get_or xs c 0 ≡ r) × (r ≢ none))
    there r c lt ne = (
      λ (h : Among (r, c) new). ⊎_elim (λ (f : (r, c) ≡ (row, n)). absurd (ne (ap (λ (q : Place). q.1) f))) (λ (k : Among (r, c) old). (p.rows_are r c (omega (arith, lt, ne))).0 k) ((grown (r, c)).0 h),
      λ told. (grown (r, c)).1 (inr ((p.rows_are r c (omega (arith, lt, ne))).1 told)),
    )

-- a right pair can be made
pub pair_allowed : (a : Matrix) (xs : List ℕ) (n row : ℕ) (m : List Place) → row ≡ get_or xs n 0 → row ≢ none → IsPairedBelow a xs n m → IsRightPair a xs n → (¬ Among row (rows_of m)) × IsEntry a row n
pair_allowed a xs n row m is some p right = (free, subst (λ r. IsEntry a r n) (sym is) (right.entry (λ e. some (is ∙ e))))
  where
    free : ¬ Among row (rows_of m)
    free on = let (d, h) = row_pair row m on in
        let lt = p.before d (col_among row d m h) in
        some (is ∙ right.once d lt (((p.rows_are row d lt).0 h).0 ∙ is))

-- all pairs are a matching
pub paired_all : (a : Matrix) (xs : List ℕ) (m : Pairing) (n : ℕ) → m.rows ≡ a.rows → m.cols ≡ cols a → length xs ≡ cols a → n ≡ length xs → IsPairing m → IsPairedBelow a xs n m.pairs → IsGivenIn a xs m
paired_all a xs m n rows columns long end pairing p = record {
  matching = look_matching a m rows columns p.entries pairing;
  right = subst (AreRightPairs a xs) (end ∙ long) p.right;
  rows_are = rows_all m.pairs xs n (λ r c h. p.before c (col_among r c m.pairs h)) (sym end) p.rows_are;
}

-- Maximum matchings.

-- a row that is told to have a mate
pub row_told : (m : List Place) (r : ℕ) (o : Option ℕ) (some : Bool) → some ≡ is_some o → IfSome o (λ c. Among (r, c) m) → IsTrue some → Among r (rows_of m)
row_told m r None some is on told = absurd (true≢false (sym told ∙ is))
row_told m r (Some c) some is on told = row_among r c m on

-- and a column
pub col_told : (m : List Place) (c : ℕ) (o : Option ℕ) (some : Bool) → some ≡ is_some o → IfSome o (λ r. Among (r, c) m) → IsTrue some → Among c (cols_of m)
col_told m c None some is on told = absurd (true≢false (sym told ∙ is))
col_told m c (Some r) some is on told = col_among r c m on

-- the list of each entry is matched
lists_matched_at : (l : CompressedLists) (n : ℕ) (m : List Place) (b : Bool) → l.by_rows ≡ b → ((r c : ℕ) → IsEntry (listed l) r c ↔ ((c < n) × Among r (piece l.starts l.ids c)))
    → ((i : ℕ) → i < n → get_or l.starts i 0 < get_or l.starts (i + 1) 0 → Among i (lists_matched b m)) → (r c : ℕ) → IsEntry (matrix_given l) r c → Among (pick b r c) (lists_matched b m)
lists_matched_at l n m b is entries all r c e = by (dec_lt (get_or l.starts (pick b r c) 0) (get_or l.starts (pick b r c + 1) 0))
  where
    given : (pick b r c < n) × Among (pick b c r) (piece l.starts l.ids (pick b r c))
    given = (entries (pick b c r) (pick b r c)).0 (subst (λ (z : Bool). IsEntry (listed l) (pick z c r) (pick z r c)) is ((given_entries l r c).0 e))

    by : Dec (get_or l.starts (pick b r c) 0 < get_or l.starts (pick b r c + 1) 0) → Among (pick b r c) (lists_matched b m)
    by (yes some) = all (pick b r c) given.0 some
    by (no empty) = elim (subst (Among (pick b c r)) (slice_none l.ids (get_or l.starts (pick b r c) 0) (get_or l.starts (pick b r c + 1) 0) (omega (arith, empty))) given.1) [ ]

-- all columns that have ids are matched, or by rows all such rows
pub lists_matched_maximum : (l : CompressedLists) (b : Bool) (n : ℕ) (m : List Place) → l.by_rows ≡ b → IsMatching (matrix_given l) m
    → ((r c : ℕ) → IsEntry (listed l) r c ↔ ((c < n) × Among r (piece l.starts l.ids c)))
    → ((i : ℕ) → i < n → get_or l.starts i 0 < get_or l.starts (i + 1) 0 → Among i (lists_matched b m)) → IsMaximum (matrix_given l) m
lists_matched_maximum l true n m is k entries all = rows_matched_maximum (matrix_given l) m k (λ r c e. lists_matched_at l n m true is entries all r c e)
lists_matched_maximum l false n m is k entries all = cols_matched_maximum (matrix_given l) m k (λ r c e. lists_matched_at l n m false is entries all r c e)

-- The least matching.

-- it is told of pairs that were right
pub told_least : (a : Matrix) (b : Bool) (k : ℕ) (xs rows ys columns : List ℕ) (m : Pairing) → b ≡ true → IsGivenIn a xs m → TellsMatching a true k xs rows ys columns → TellsMatchingFrom a b k xs rows ys columns
told_least a b k xs rows ys columns m is given t = record {
  right = given.right;
  start = m.pairs;
  start_is = given.rows_are;
  pairs = t.pairs;
  are_pairs = subst (λ (z : Bool). IsMaximumOrLeast a z t.pairs) (sym is) t.are_pairs;
  size_is = t.size_is;
  covered = λ e. absurd (true≢false (sym is ∙ e));
  rows_are = t.rows_are;
  columns_are = t.columns_are;
}
