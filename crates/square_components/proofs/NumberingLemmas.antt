-- Numbers that are written to columns and to their mates, column by column.
use Rattle.std.proofs.Common.{◌≡◌, ◌≢◌, ◌⊎◌, ◌∙◌, ◌==◌, true, true≢false, ℕ, ◌+◌, ◌<◌, ◌≤◌, List, map, replicate, length, get_or, set, refl, sym, ap, subst, inl, inr, ⊎_elim, arith, get_or-set_same, get_or-set_other}
use Rattle.std.proofs.lemmas.Bool.Decides.{eqb_tells}
use Rattle.std.proofs.lemmas.List.{length-map, length-set, length-replicate, get_or-replicate, get_or_default, get_or_past}
use Rattle.bip_defs.specs.Lists.{Among, AreDistinct, IsRising, Lists}
use Rattle.bip_defs.specs.Matching.{IsMatching, IsMaximum, cols_of, rows_of}
use Rattle.bip_defs.specs.Matrix.{Matrix, Place, cols, upto}
use Rattle.bip_defs.specs.Parts.{IsSquareCol}
use Rattle.bip_defs.proofs.Queues.{distinct_at}
use Rattle.bip_defs.proofs.Sets.{among_at, col_among, col_pair, entry_col, few_distinct, number_among, number_at, number_same, one_col, place_among, rising_distinct, rising_order, row_among, row_pair, upto_complete, upto_length}
use Rattle.bip_graph.specs.Matching.{none}
use Rattle.square_components.specs.Found.{IsFound, finished_at, row_in}
use Rattle.square_components.specs.Groups.{AreOfMates}
use Rattle.square_components.specs.Numbers.{AreNumbered, FallAlong, look}
use Rattle.square_components.specs.Part.{IsSquarePart}
use Rattle.square_components.specs.Renumbering.{AreNumberedByLeast, AreRenumbered, Gives}
use Rattle.square_components.proofs.GraphLemmas.{less, row_in_is}
use Rattle.square_components.proofs.RenumberingLemmas.{AreGiven, given_all, given_step}

-- the columns rise, and each has a mate in range
pub record HaveMates (pairs : List Place) (listed : List ℕ) (rows width : ℕ) : Type 0 where
  pub rows_differ : AreDistinct (rows_of pairs)
  pub cols_differ : AreDistinct (cols_of pairs)
  pub rising : IsRising listed
  pub mates : (c : ℕ) → Among c listed → Among (row_in pairs c, c) pairs
  pub rows_in : (c : ℕ) → Among c listed → row_in pairs c < rows
  pub cols_in : (c : ℕ) → Among c listed → c < width
  pub few : length listed ≤ width

pub have_mates : (a : Matrix) (pairs : List Place) (listed state : List ℕ) (count : ℕ) → IsMaximum a pairs → Lists (IsSquareCol a) listed → IsFound a pairs state count → HaveMates pairs listed (length state) (cols a)
have_mates a pairs listed state count max ls found = record {
  rows_differ = differ.rows_differ;
  cols_differ = differ.cols_differ;
  rising = ls.rising;
  mates = mate;
  rows_in = λ c h. let inside = (found.perfect.only_rows (row_in pairs c) (row_among (row_in pairs c) c found.square (found.all_pairs (row_in pairs c) c (mate c h) (ls.sound c h)))).0 in let long = found.long in omega (arith, inside, long);
  cols_in = λ c h. (ls.sound c h).0;
  few = subst (λ n. length listed ≤ n) (upto_length 0 (cols a)) (few_distinct listed (upto (cols a)) (rising_distinct listed ls.rising) (λ c h. upto_complete 0 (cols a) c (omega arith) (let lt = (ls.sound c h).0 in omega (arith, lt))));
}
  where
    differ : IsMatching a pairs
    differ = max.matching

    mate : (c : ℕ) → Among c listed → Among (row_in pairs c, c) pairs
    mate c h =
        let (r, is) = col_pair c found.square (found.perfect.covers_col c (ls.sound c h)) in
        let pair = found.are_pairs r c is in
        subst (λ x. Among (x, c) pairs) (sym (row_in_is pairs r c differ.cols_differ pair)) pair

-- of the first k columns and their mates both have the same number; others are untouched
pub record AreWritten (pairs : List Place) (listed state : List ℕ) (width k : ℕ) (of_rows of_cols : List ℕ) : Type 0 where
  pub long_rows : length of_rows ≡ length state
  pub long_cols : length of_cols ≡ width
  pub same : (i : ℕ) → i < k → look of_rows (row_in pairs (get_or listed i 0)) ≡ look of_cols (get_or listed i 0)
  pub other_rows : (r : ℕ) → ((i : ℕ) → i < k → r ≢ row_in pairs (get_or listed i 0)) → look of_rows r ≡ look state r
  pub other_cols : (c : ℕ) → ((i : ℕ) → i < k → c ≢ get_or listed i 0) → look of_cols c ≡ none

before_or : (k c : ℕ) → c < k + 1 → (c < k) ⊎ (c ≡ k)
before_or k c lt = ⊎_elim (λ e. inr e) (λ ne. inl (omega (arith, lt, ne))) (number_same c k)

look_same : (xs : List ℕ) (i x : ℕ) → i < length xs → look (set xs i x) i ≡ x
look_same xs i x lt = get_or-set_same xs i x none lt

look_other : (xs : List ℕ) (i j x : ℕ) → j ≢ i → look (set xs i x) j ≡ look xs j
look_other xs i j x ne = get_or-set_other xs i j x none ne

-- places of a rising list differ
rising_apart : (xs : List ℕ) → IsRising xs → (i j : ℕ) → i < j → j < length xs → get_or xs i 0 ≢ get_or xs j 0
rising_apart xs h i j lt inside = distinct_at xs i j (rising_distinct xs h) lt inside

pub row_apart : (pairs : List Place) (listed : List ℕ) (rows width k i : ℕ) → HaveMates pairs listed rows width → k < length listed → i < k → row_in pairs (get_or listed i 0) ≢ row_in pairs (get_or listed k 0)
row_apart pairs listed rows width k i h inside lt e =
    let one = h.mates (get_or listed i 0) (among_at listed i 0 (omega arith)) in
    let two = h.mates (get_or listed k 0) (among_at listed k 0 inside) in
    rising_apart listed h.rising i k lt inside (one_col pairs h.rows_differ (row_in pairs (get_or listed i 0)) (get_or listed i 0) (get_or listed k 0) one (subst (λ r. Among (r, get_or listed k 0) pairs) (sym e) two))

-- the row of the next column is as the search left it
pub next_row : (pairs : List Place) (listed state : List ℕ) (width k : ℕ) (of_rows of_cols : List ℕ) → HaveMates pairs listed (length state) width → AreWritten pairs listed state width k of_rows of_cols → k < length listed
    → look of_rows (row_in pairs (get_or listed k 0)) ≡ look state (row_in pairs (get_or listed k 0))
next_row pairs listed state width k of_rows of_cols h w inside = w.other_rows (row_in pairs (get_or listed k 0)) (λ i lt e. row_apart pairs listed (length state) width k i h inside lt (sym e))

pub written_more : (pairs : List Place) (listed state : List ℕ) (width k : ℕ) (of_rows of_cols : List ℕ) (x : ℕ) → HaveMates pairs listed (length state) width → AreWritten pairs listed state width k of_rows of_cols → k < length listed
    → AreWritten pairs listed state width (k + 1) (set of_rows (row_in pairs (get_or listed k 0)) x) (set of_cols (get_or listed k 0) x)
written_more pairs listed state width k of_rows of_cols x h w inside = record {
  long_rows = length-set of_rows (row_in pairs (get_or listed k 0)) x ∙ w.long_rows;
  long_cols = length-set of_cols (get_or listed k 0) x ∙ w.long_cols;
  same = λ i lt. ⊎_elim
      (λ (b : i < k). look_other of_rows (row_in pairs (get_or listed k 0)) (row_in pairs (get_or listed i 0)) x (row_apart pairs listed (length state) width k i h inside b)
      ∙ w.same i b ∙ sym (look_other of_cols (get_or listed k 0) (get_or listed i 0) x (rising_apart listed h.rising i k b inside)))
      (λ (e : i ≡ k). subst (λ j. look (set of_rows (row_in pairs (get_or listed k 0)) x) (row_in pairs (get_or listed j 0)) ≡ look (set of_cols (get_or listed k 0) x) (get_or listed j 0)) (sym e)
      (look_same of_rows (row_in pairs (get_or listed k 0)) x row_in_range ∙ sym (look_same of_cols (get_or listed k 0) x col_in_range)))
      (before_or k i lt);
  other_rows = λ r off. look_other of_rows (row_in pairs (get_or listed k 0)) r x (off k (omega arith)) ∙ w.other_rows r (λ i lt. off i (omega (arith, lt)));
  other_cols = λ c off. look_other of_cols (get_or listed k 0) c x (off k (omega arith)) ∙ w.other_cols c (λ i lt. off i (omega (arith, lt)));
}
  where
    here : Among (get_or listed k 0) listed
    here = among_at listed k 0 inside

    row_in_range : row_in pairs (get_or listed k 0) < length of_rows
    row_in_range = let lt = h.rows_in (get_or listed k 0) here in let long = w.long_rows in omega (arith, lt, long)

    col_in_range : get_or listed k 0 < length of_cols
    col_in_range = let lt = h.cols_in (get_or listed k 0) here in let long = w.long_cols in omega (arith, lt, long)

-- each of the columns so far has the number that it is to have
pub numbers_more : (listed : List ℕ) (f : ℕ → ℕ) (k : ℕ) (of_cols : List ℕ) (x : ℕ) → IsRising listed → k < length listed → get_or listed k 0 < length of_cols
    → ((i : ℕ) → i < k → look of_cols (get_or listed i 0) ≡ f i) → x ≡ f k
    → (i : ℕ) → i < k + 1 → look (set of_cols (get_or listed k 0) x) (get_or listed i 0) ≡ f i
numbers_more listed f k of_cols x h inside in_range so_far is i lt = ⊎_elim
    (λ (b : i < k). look_other of_cols (get_or listed k 0) (get_or listed i 0) x (rising_apart listed h i k b inside) ∙ so_far i b)
    (λ (e : i ≡ k). ap (λ j. look (set of_cols (get_or listed k 0) x) (get_or listed j 0)) e ∙ look_same of_cols (get_or listed k 0) x in_range ∙ is ∙ ap f (sym e))
    (before_or k i lt)

-- the next column and its mate, as a loop reads them
pub record IsNext (pairs : List Place) (listed : List ℕ) (k row col : ℕ) : Type 0 where
  pub inside : k < length listed
  pub col_is : col ≡ get_or listed k 0
  pub row_is : row ≡ row_in pairs (get_or listed k 0)

pub is_next : (pairs : List Place) (listed : List ℕ) (rows width k row col mate item : ℕ) → HaveMates pairs listed rows width → k < length listed → col ≡ item → item ≡ get_or listed k 0 → row ≡ mate → Among (mate, item) pairs → IsNext pairs listed k row col
is_next pairs listed rows width k row col mate item h inside view at is pair = record {
  inside = inside;
  col_is = view ∙ at;
  row_is = is ∙ sym (row_in_is pairs mate item h.cols_differ pair) ∙ ap (row_in pairs) at;
}

-- the same over a square part, and the mates of its columns
pub next_of_part : (a : Matrix) (rows listed : List ℕ) (pairs : List Place) (state : List ℕ) (count end k row col mate item : ℕ) → IsSquarePart a rows listed pairs → IsFound a pairs state count → k < end → end ≡ length rows → col ≡ item → item ≡ get_or listed k 0 → row ≡ mate → Among (mate, item) pairs
    → HaveMates pairs listed (length state) (cols a) × IsNext pairs listed k row col
next_of_part a rows listed pairs state count end k row col mate item part found lt long view at is pair =
    let h = have_mates a pairs listed state count part.maximum part.square_cols found in
    let same = part.same in
    (h, is_next pairs listed (length state) (cols a) k row col mate item h (omega (arith, lt, long, same)) view at is pair)

-- it has a mate
pub next_matched : (pairs : List Place) (listed : List ℕ) (rows width k col : ℕ) → HaveMates pairs listed rows width → k < length listed → col ≡ get_or listed k 0 → Among col (cols_of pairs)
next_matched pairs listed rows width k col h inside at =
    subst (λ c. Among c (cols_of pairs)) (sym at) (col_among (row_in pairs (get_or listed k 0)) (get_or listed k 0) pairs (h.mates (get_or listed k 0) (among_at listed k 0 inside)))

pub next_row_in : (pairs : List Place) (listed : List ℕ) (rows width k row col : ℕ) → HaveMates pairs listed rows width → IsNext pairs listed k row col → row < rows
next_row_in pairs listed rows width k row col h n = subst (λ r. r < rows) (sym n.row_is) (h.rows_in (get_or listed k 0) (among_at listed k 0 n.inside))

pub next_col_in : (pairs : List Place) (listed : List ℕ) (rows width k row col : ℕ) → HaveMates pairs listed rows width → IsNext pairs listed k row col → col < width
next_col_in pairs listed rows width k row col h n = subst (λ c. c < width) (sym n.col_is) (h.cols_in (get_or listed k 0) (among_at listed k 0 n.inside))

-- what is read at the next row
pub next_read : (pairs : List Place) (listed state : List ℕ) (width k : ℕ) (of_rows of_cols : List ℕ) (row col x : ℕ) → HaveMates pairs listed (length state) width → AreWritten pairs listed state width k of_rows of_cols → IsNext pairs listed k row col
    → x ≡ get_or of_rows row x → x ≡ look state (row_in pairs (get_or listed k 0))
next_read pairs listed state width k of_rows of_cols row col x h w n e =
    let inside = next_row_in pairs listed (length state) width k row col h n in
    e ∙ get_or_default of_rows row x none (let long = w.long_rows in omega (arith, inside, long)) ∙ ap (look of_rows) n.row_is ∙ next_row pairs listed state width k of_rows of_cols h w n.inside

pub next_written : (pairs : List Place) (listed state : List ℕ) (width k : ℕ) (of_rows of_cols : List ℕ) (row col x : ℕ) → HaveMates pairs listed (length state) width → AreWritten pairs listed state width k of_rows of_cols → IsNext pairs listed k row col
    → AreWritten pairs listed state width (k + 1) (set of_rows row x) (set of_cols col x)
next_written pairs listed state width k of_rows of_cols row col x h w n =
    rw (n.row_is, n.col_is) (written_more pairs listed state width k of_rows of_cols x h w n.inside)

pub next_numbers : (pairs : List Place) (listed state : List ℕ) (width k : ℕ) (of_rows of_cols : List ℕ) (row col x : ℕ) (f : ℕ → ℕ) → HaveMates pairs listed (length state) width → AreWritten pairs listed state width k of_rows of_cols → IsNext pairs listed k row col
    → ((i : ℕ) → i < k → look of_cols (get_or listed i 0) ≡ f i) → x ≡ f k
    → (i : ℕ) → i < k + 1 → look (set of_cols col x) (get_or listed i 0) ≡ f i
next_numbers pairs listed state width k of_rows of_cols row col x f h w n so_far is =
    rw n.col_is (numbers_more listed f k of_cols x h.rising n.inside (let lt = h.cols_in (get_or listed k 0) (among_at listed k 0 n.inside) in let long = w.long_cols in omega (arith, lt, long)) so_far is)

pub none_written : (pairs : List Place) (listed state : List ℕ) (width : ℕ) (of_rows of_cols : List ℕ) → of_rows ≡ state → of_cols ≡ replicate width none → AreWritten pairs listed state width 0 of_rows of_cols
none_written pairs listed state width of_rows of_cols rows cols = record {
  long_rows = ap length rows;
  long_cols = ap length cols ∙ length-replicate width none;
  same = λ i lt. absurd (omega (arith, lt));
  other_rows = λ r off. ap (λ xs. look xs r) rows;
  other_cols = λ c off. ap (λ xs. look xs c) cols ∙ ⊎_elim (λ (lt : c < width). get_or-replicate width c none none lt) (λ (le : width ≤ c). get_or_past (replicate width none) c none (let long = length-replicate width none in omega (arith, long, le))) (less c width);
}

-- When all are written.

-- rows of other parts have off number
pub row_out : (a : Matrix) (pairs : List Place) (listed state : List ℕ) (count : ℕ) (of_rows of_cols : List ℕ) (r : ℕ) → (max : IsMaximum a pairs) → (ls : Lists (IsSquareCol a) listed) → (found : IsFound a pairs state count)
    → AreWritten pairs listed state (cols a) (length listed) of_rows of_cols → ¬ Among r (rows_of found.square) → look of_rows r ≡ none
row_out a pairs listed state count of_rows of_cols r max ls found w off =
    let h = have_mates a pairs listed state count max ls found in
    w.other_rows r (λ i lt e.
    let here = among_at listed i 0 lt in
    let pair = found.all_pairs (row_in pairs (get_or listed i 0)) (get_or listed i 0) (h.mates (get_or listed i 0) here) (ls.sound (get_or listed i 0) here) in
    off (subst (λ x. Among x (rows_of found.square)) (sym e) (row_among (row_in pairs (get_or listed i 0)) (get_or listed i 0) found.square pair)))
    ∙ found.outside r (λ sq. off (found.perfect.covers_row r sq))

-- columns of other parts too
pub col_out : (a : Matrix) (pairs : List Place) (listed state : List ℕ) (of_rows of_cols : List ℕ) (c : ℕ) → Lists (IsSquareCol a) listed
    → AreWritten pairs listed state (cols a) (length listed) of_rows of_cols → ¬ IsSquareCol a c → look of_cols c ≡ none
col_out a pairs listed state of_rows of_cols c ls w off = w.other_cols c (λ i lt e. off (ls.sound c (subst (λ x. Among x listed) (sym e) (among_at listed i 0 lt))))

-- a row of the square part has the number of its mate
pub row_in_part : (a : Matrix) (pairs : List Place) (listed state : List ℕ) (count : ℕ) (of_rows of_cols : List ℕ) (r d : ℕ) → (max : IsMaximum a pairs) → Lists (IsSquareCol a) listed → (found : IsFound a pairs state count)
    → AreWritten pairs listed state (cols a) (length listed) of_rows of_cols → Among (r, d) found.square → look of_rows r ≡ look of_cols d
row_in_part a pairs listed state count of_rows of_cols r d max ls found w pair =
    let (i, lt, at) = place_among d 0 listed (ls.complete d (found.perfect.only_cols d (col_among r d found.square pair))) in
    let mate = row_in_is pairs r d max.matching.cols_differ (found.are_pairs r d pair) in
    sym (ap (look of_rows) (ap (row_in pairs) at ∙ mate)) ∙ w.same i lt ∙ ap (look of_cols) at

pub written_mates : (a : Matrix) (pairs : List Place) (listed state : List ℕ) (count : ℕ) (of_rows of_cols : List ℕ) → IsMaximum a pairs → Lists (IsSquareCol a) listed → IsFound a pairs state count
    → AreWritten pairs listed state (cols a) (length listed) of_rows of_cols → AreOfMates pairs of_cols a.rows of_rows
written_mates a pairs listed state count of_rows of_cols max ls found w = record {
  long = w.long_rows ∙ found.long;
  each = λ r lt. ⊎_elim
      (λ (h : Among r (rows_of found.square)).
      let (d, pair) = row_pair r found.square h in
      let over = found.are_pairs r d pair in
      inl (d, over, read_row r lt ∙ row_in_part a pairs listed state count of_rows of_cols r d max ls found w pair ∙ sym (read_col r d over)))
      (λ (off : ¬ Among r (rows_of found.square)).
      let out : get_or of_rows r 0 ≡ none = read_row r lt ∙ row_out a pairs listed state count of_rows of_cols r max ls found w off in
      ⊎_elim
      (λ (h : Among r (rows_of pairs)).
      let (c, pair) = row_pair r pairs h in
      inl (c, pair, out ∙ sym (read_col r c pair ∙ col_out a pairs listed state of_rows of_cols c ls w (λ sq. off (row_among r c found.square (found.all_pairs r c pair sq))))))
      (λ (free : ¬ Among r (rows_of pairs)). inr (free, out))
      (number_among r (rows_of pairs)))
      (number_among r (rows_of found.square));
}
  where
    read_row : (r : ℕ) → r < a.rows → get_or of_rows r 0 ≡ look of_rows r
    read_row r lt = get_or_default of_rows r 0 none (let long = w.long_rows in let all = found.long in omega (arith, lt, long, all))

    read_col : (r c : ℕ) → Among (r, c) pairs → get_or of_cols c 0 ≡ look of_cols c
    read_col r c pair = get_or_default of_cols c 0 none (let lt = entry_col a r c (max.matching.entries r c pair) in let long = w.long_cols in omega (arith, lt, long))

col_number : (listed of_cols : List ℕ) (c : ℕ) (f : ℕ → ℕ) → Among c listed → ((i : ℕ) → i < length listed → look of_cols (get_or listed i 0) ≡ f (get_or listed i 0)) → look of_cols c ≡ f c
col_number listed of_cols c f here numbers =
    let (i, lt, at) = place_among c 0 listed here in
    sym (ap (look of_cols) at) ∙ numbers i lt ∙ ap f at

-- the numbers in which the search finished them
pub written_numbered : (a : Matrix) (pairs : List Place) (listed state : List ℕ) (count : ℕ) (of_rows of_cols : List ℕ) → Lists (IsSquareCol a) listed → IsFound a pairs state count
    → AreWritten pairs listed state (cols a) (length listed) of_rows of_cols
    → ((i : ℕ) → i < length listed → look of_cols (get_or listed i 0) ≡ finished_at pairs state (get_or listed i 0))
    → AreNumbered a pairs of_cols count
written_numbered a pairs listed state count of_rows of_cols ls found w numbers = record {
  columns = record {
    long = w.long_cols;
    square = found.square;
    perfect = found.perfect;
    are_pairs = found.are_pairs;
    all_pairs = found.all_pairs;
    below = λ c here. let lt = found.below c here in let is = now c here in omega (arith, lt, is);
    used = λ k lt. let (c, here, is) = found.used k lt in (c, here, now c here ∙ is);
    outside = λ c off. col_out a pairs listed state of_rows of_cols c ls w off;
    few = found.few;
  };
  components = record {
    joined = λ c d here there e. found.components.joined c d here there (sym (now c here) ∙ e ∙ now d there);
    falling = λ r c d here entry pair.
        let le = found.components.falling r c d here entry pair in
        let is = now c here in
        let at = now d (found.perfect.only_cols d (col_among r d found.square pair)) in
        omega (arith, le, is, at);
  };
}
  where
    now : (c : ℕ) → IsSquareCol a c → look of_cols c ≡ finished_at pairs state c
    now c here = col_number listed of_cols c (finished_at pairs state) (ls.complete c here) numbers

-- numbers that are those of the search fall along entries
pub written_falls : (a : Matrix) (pairs : List Place) (listed state : List ℕ) (count : ℕ) (of_rows of_cols : List ℕ) → IsMaximum a pairs → Lists (IsSquareCol a) listed → IsFound a pairs state count
    → AreWritten pairs listed state (cols a) (length listed) of_rows of_cols
    → ((i : ℕ) → i < length listed → look of_cols (get_or listed i 0) ≡ finished_at pairs state (get_or listed i 0))
    → FallAlong a of_rows of_cols
written_falls a pairs listed state count of_rows of_cols max ls found w numbers r c here entry some = ⊎_elim
    (λ (h : Among r (rows_of found.square)).
    let (d, pair) = row_pair r found.square h in
    let le = found.components.falling r c d here entry pair in
    let own = row_in_part a pairs listed state count of_rows of_cols r d max ls found w pair in
    let is = now c here in
    let at = now d (found.perfect.only_cols d (col_among r d found.square pair)) in
    omega (arith, le, own, is, at, read))
    (λ (off : ¬ Among r (rows_of found.square)). absurd (some (read ∙ row_out a pairs listed state count of_rows of_cols r max ls found w off)))
    (number_among r (rows_of found.square))
  where
    now : (c : ℕ) → IsSquareCol a c → look of_cols c ≡ finished_at pairs state c
    now c here = col_number listed of_cols c (finished_at pairs state) (ls.complete c here) numbers

    read : get_or of_rows r 0 ≡ look of_rows r
    read = get_or_default of_rows r 0 none (let lt = entry.0 in let long = w.long_rows in let all = found.long in omega (arith, lt, long, all))

-- Numbers by least columns.

-- numbers that a test finds equal
pub told_same : (x y : ℕ) → (x == y) ≡ true → x ≡ y
told_same x y e = ⊎_elim (λ k. k.1) (λ k. absurd (true≢false (sym e ∙ k.0))) (eqb_tells x y)

-- the columns so far have new numbers in place of those that f gives
pub record AreLabelled (f : ℕ → ℕ) (listed : List ℕ) (total k : ℕ) (of_cols anew : List ℕ) (next : ℕ) : Type 0 where
  pub labels : List ℕ
  pub given : AreGiven (map f listed) total k labels anew next
  pub numbers : (i : ℕ) → i < k → look of_cols (get_or listed i 0) ≡ get_or labels i 0

old_at : (f : ℕ → ℕ) (listed : List ℕ) (i : ℕ) → i < length listed → get_or (map f listed) i 0 ≡ f (get_or listed i 0)
old_at f listed i lt = number_at f listed i (get_or listed i 0) (get_or_default listed i 0 (get_or listed i 0) lt) lt

pub none_labelled : (f : ℕ → ℕ) (listed : List ℕ) (total : ℕ) (of_cols anew : List ℕ) → anew ≡ replicate total none → AreLabelled f listed total 0 of_cols anew 0
none_labelled f listed total of_cols anew e = record {
  labels = map f listed;
  given = record {
    long = refl;
    wide = ap length e ∙ length-replicate total none;
    rest = λ c le. refl;
    each = λ c lt below. absurd (omega (arith, lt));
    outside = λ c lt above. absurd (omega (arith, lt));
    seen = λ c lt below. absurd (omega (arith, lt));
    had = λ i lt some. absurd (some (unset i lt));
    apart = λ i j it jt some same. absurd (some (unset i it));
    used = λ x lt. absurd (omega (arith, lt));
    earlier = λ c x lt below above. absurd (omega (arith, lt));
    few = omega arith;
  };
  numbers = λ i lt. absurd (omega (arith, lt));
}
  where
    unset : (i : ℕ) → i < total → get_or anew i 0 ≡ none
    unset i lt = ap (λ xs. get_or xs i 0) e ∙ get_or-replicate total i none 0 lt

-- the next column's number is to be given anew
pub next_finished : (a : Matrix) (pairs : List Place) (listed state : List ℕ) (count k : ℕ) → Lists (IsSquareCol a) listed → IsFound a pairs state count → k < length listed → finished_at pairs state (get_or listed k 0) < count
next_finished a pairs listed state count k ls found inside = found.below (get_or listed k 0) (ls.sound (get_or listed k 0) (among_at listed k 0 inside))

pub next_labelled : (pairs : List Place) (listed state : List ℕ) (width k : ℕ) (of_rows of_cols : List ℕ) (row col : ℕ) (f : ℕ → ℕ) (total : ℕ) (anew : List ℕ) (next old number : ℕ) (anew2 : List ℕ) (next2 : ℕ) → HaveMates pairs listed (length state) width → AreWritten pairs listed state width k of_rows of_cols → IsNext pairs listed k row col
    → width ≤ none → old ≡ f (get_or listed k 0) → old < total → AreLabelled f listed total k of_cols anew next → Gives old anew next number anew2 next2
    → AreLabelled f listed total (k + 1) (set of_cols col number) anew2 next2
next_labelled pairs listed state width k of_rows of_cols row col f total anew next old number anew2 next2 h w n small is low s gives = record {
  labels = set s.labels k number;
  given = given_step (map f listed) total k s.labels anew next number anew2 next2 s.given inside (let few = h.few in omega (arith, few, small, long)) (subst (λ x. x < total) at low) (subst (λ x. Gives x anew next number anew2 next2) at gives);
  numbers = next_numbers pairs listed state width k of_rows of_cols row col number (λ i. get_or (set s.labels k number) i 0) h w n
      (λ i lt. s.numbers i lt ∙ sym (get_or-set_other s.labels k i number 0 (omega (arith, lt))))
      (sym (get_or-set_same s.labels k number 0 (let wide = s.given.long in omega (arith, inside, wide))));
}
  where
    long : length (map f listed) ≡ length listed
    long = length-map listed f

    inside : k < length (map f listed)
    inside = let lt = n.inside in omega (arith, lt, long)

    at : old ≡ get_or s.labels k 0
    at = is ∙ sym (s.given.rest k (omega arith) ∙ old_at f listed k n.inside)

pub labelled_few : (f : ℕ → ℕ) (listed : List ℕ) (total k : ℕ) (of_cols anew : List ℕ) (next width : ℕ) → AreLabelled f listed total k of_cols anew next → k < length listed → length listed ≤ width → width ≤ none → next < none
labelled_few f listed total k of_cols anew next width s inside few small = let le = s.given.few in omega (arith, le, inside, few, small)

pub written_least : (a : Matrix) (pairs : List Place) (listed state : List ℕ) (count : ℕ) (of_rows of_cols anew : List ℕ) (n : ℕ) → IsMaximum a pairs → Lists (IsSquareCol a) listed → IsFound a pairs state count
    → AreWritten pairs listed state (cols a) (length listed) of_rows of_cols → AreLabelled (finished_at pairs state) listed count (length listed) of_cols anew n
    → AreNumberedByLeast a pairs of_cols n
written_least a pairs listed state count of_rows of_cols anew n max ls found w s = record {
  columns = record {
    long = w.long_cols;
    square = found.square;
    perfect = found.perfect;
    are_pairs = found.are_pairs;
    all_pairs = found.all_pairs;
    below = λ c here.
        let (i, it, ia) = place_among c 0 listed (ls.complete c here) in
        subst (λ x. x < n) (sym (now i c it ia)) (all.below i (in_old i it) (low i it));
    used = λ k lt.
        let (i, inside, below, is) = all.used k lt in
        let it = in_listed i inside in
        (get_or listed i 0, ls.sound (get_or listed i 0) (among_at listed i 0 it), now i (get_or listed i 0) it refl ∙ is);
    outside = λ c off. col_out a pairs listed state of_rows of_cols c ls w off;
    few = let le = all.few in let few = mates.few in omega (arith, le, few, long);
  };
  finished = finished_at pairs state;
  components = found.components;
  same = λ c d here there.
      let (i, it, ia) = place_among c 0 listed (ls.complete c here) in
      let (j, jt, ja) = place_among d 0 listed (ls.complete d there) in
      let both = all.same i j (in_old i it) (in_old j jt) (low i it) (low j jt) in (
        (λ e. sym (was i c it ia) ∙ both.0 (sym (now i c it ia) ∙ e ∙ now j d jt ja) ∙ was j d jt ja),
        (λ e. now i c it ia ∙ both.1 (was i c it ia ∙ e ∙ sym (was j d jt ja)) ∙ sym (now j d jt ja)),
      );
  earlier = λ c k here lt.
      let (i, it, ia) = place_among c 0 listed (ls.complete c here) in
      let (j, before, below, is) = all.earlier i k (in_old i it) (low i it) (subst (λ x. k < x) (now i c it ia) lt) in
      let jt : j < length listed = omega (arith, before, it) in
      let order = rising_order listed ls.rising j i (omega (arith, before)) it in
      let differ = rising_apart listed ls.rising j i before it in
      (get_or listed j 0, omega (arith, order, differ, ia), ls.sound (get_or listed j 0) (among_at listed j 0 jt), now j (get_or listed j 0) jt refl ∙ is);
}
  where
    mates : HaveMates pairs listed (length state) (cols a)
    mates = have_mates a pairs listed state count max ls found

    long : length (map (finished_at pairs state) listed) ≡ length listed
    long = length-map listed (finished_at pairs state)

    all : AreRenumbered (map (finished_at pairs state) listed) count s.labels n
    all = given_all (map (finished_at pairs state) listed) count (length listed) s.labels anew n s.given (sym long) (let few = mates.few in let small = found.few_cols in omega (arith, few, small, long))

    in_old : (i : ℕ) → i < length listed → i < length (map (finished_at pairs state) listed)
    in_old i lt = omega (arith, lt, long)

    in_listed : (i : ℕ) → i < length (map (finished_at pairs state) listed) → i < length listed
    in_listed i lt = omega (arith, lt, long)

    low : (i : ℕ) → i < length listed → get_or (map (finished_at pairs state) listed) i 0 < count
    low i lt = subst (λ x. x < count) (sym (old_at (finished_at pairs state) listed i lt)) (next_finished a pairs listed state count i ls found lt)

    was : (i c : ℕ) → i < length listed → get_or listed i 0 ≡ c → get_or (map (finished_at pairs state) listed) i 0 ≡ finished_at pairs state c
    was i c lt at = old_at (finished_at pairs state) listed i lt ∙ ap (finished_at pairs state) at

    now : (i c : ℕ) → i < length listed → get_or listed i 0 ≡ c → look of_cols c ≡ get_or s.labels i 0
    now i c lt at = ap (look of_cols) (sym at) ∙ s.numbers i lt
