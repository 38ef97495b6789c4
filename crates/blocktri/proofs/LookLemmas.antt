-- What the first look finds.
use Rattle.std.proofs.Common.{◌≡◌, ◌⊎◌, ◌↔◌, ℕ, zero, suc, ◌+◌, ◌-◌, ◌<◌, ◌≤◌, ◌∙◌, List, [], ◌∷◌, length, drop, get_or, ap, arith, inl, inr, refl, sym, subst, ⊎_elim}
use Rattle.std.proofs.lemmas.List.{get_or-drop, get_or-take, length-drop, length-map, length-take}
use Rattle.std.specs.List.{slice_range}
use Rattle.bip_defs.specs.Lists.{Among}
use Rattle.bip_defs.specs.Matching.{IsMatching, IsMaximum, cols_of, rows_of}
use Rattle.bip_defs.specs.Matrix.{AreEntries, IsEntry, Matrix, Place, cols}
use Rattle.bip_defs.specs.Pieces.{AreStarts, piece}
use Rattle.bip_defs.proofs.Full.{few_below}
use Rattle.bip_defs.proofs.Sets.{among_at, among_take, col_among, col_pair, few_distinct, number_same, place_among, rising_distinct, row_among, row_pair}
use Rattle.bip_defs.proofs.Slices.{slice_none}
use Rattle.bip_graph.specs.Matching.{IsMatchingOf, IsPairing, Pairing}

-- what stands in a part of a list
pub read_part : (xs : List ℕ) (from to k : ℕ) → from ≤ k → k < to → to ≤ length xs → Among (get_or xs k 0) (slice_range xs from to)
read_part xs from to k le lt within =
    let back : from + (k - from) ≡ k = omega (arith, le) in
    let long : length (slice_range xs from to) ≡ to - from = rw (length-take, length-drop) (omega (arith, within)) in
    subst (λ z. Among z (slice_range xs from to)) (get_or-take (to - from) (drop from xs) (k - from) 0 (omega (arith, le, lt)) ∙ get_or-drop from xs (k - from) 0 ∙ ap (λ i. get_or xs i 0) back)
    (among_at (slice_range xs from to) (k - from) 0 (omega (arith, long, le, lt)))

-- no matching has more pairs than there are rows
pub few_rows : (a : Matrix) (m : List Place) → IsMatching a m → length m ≤ a.rows
few_rows a m k =
    let most = few_below a.rows (rows_of m) k.rows_differ (λ r h. let (c, p) = row_pair r m h in (k.entries r c p).0) in
    let same = length-map m (λ (p : Place). p.0) in
    omega (arith, most, same)

-- one with as many is maximum
pub full_rows_maximum : (a : Matrix) (m : List Place) → IsMatching a m → length m ≡ a.rows → IsMaximum a m
full_rows_maximum a m k full = record { matching = k; longest = λ o l. let few = few_rows a o l in omega (arith, full, few) }

-- pairs of entries
pub look_matching : (a : Matrix) (m : Pairing) → m.rows ≡ a.rows → m.cols ≡ cols a → AreEntries a m.pairs → IsPairing m → IsMatchingOf a m
look_matching a m rows columns entries pairing = record {
  rows = rows;
  cols = columns;
  matching = record { entries = entries; rows_differ = pairing.rows_differ; cols_differ = rising_distinct (cols_of m.pairs) pairing.cols_rise };
}

-- a matching that matches the column of each entry is maximum
pub cols_matched_maximum : (a : Matrix) (m : List Place) → IsMatching a m → ((r c : ℕ) → IsEntry a r c → Among c (cols_of m)) → IsMaximum a m
cols_matched_maximum a m k all = record {
  matching = k;
  longest = λ o l.
      let few = few_distinct (cols_of o) (cols_of m) l.cols_differ (λ c h. let (r, p) = col_pair c o h in all r c (l.entries r c p)) in
      let here = length-map m (λ (p : Place). p.1) in
      let there = length-map o (λ (p : Place). p.1) in
      omega (arith, few, here, there);
}

-- and so is one that matches the row of each
pub rows_matched_maximum : (a : Matrix) (m : List Place) → IsMatching a m → ((r c : ℕ) → IsEntry a r c → Among r (rows_of m)) → IsMaximum a m
rows_matched_maximum a m k all = record {
  matching = k;
  longest = λ o l.
      let few = few_distinct (rows_of o) (rows_of m) l.rows_differ (λ r h. let (c, p) = row_pair r o h in all r c (l.entries r c p)) in
      let here = length-map m (λ (p : Place). p.0) in
      let there = length-map o (λ (p : Place). p.0) in
      omega (arith, few, here, there);
}

among_drop : (n x : ℕ) (xs : List ℕ) → Among x (drop n xs) → Among x xs
among_drop zero x xs h = h
among_drop (suc n) x [] h = h
among_drop (suc n) x (y ∷ ys) h = inr (among_drop n x ys h)

-- the row of an entry is one of the ids
pub given_row : (m : List Place) (starts ids : List ℕ) → ((k : ℕ) → k < length ids → Among (get_or ids k 0) (rows_of m)) → (r c : ℕ) → Among r (piece starts ids c) → Among r (rows_of m)
given_row m starts ids all r c h =
    let within = among_drop (get_or starts c 0) r ids (among_take (get_or starts (c + 1) 0 - get_or starts c 0) r (drop (get_or starts c 0) ids) h) in
    let (k, lt, is) = place_among r 0 ids within in
    subst (λ z. Among z (rows_of m)) is (all k lt)

-- one id more
pub matched_more : (m : List Place) (ids : List ℕ) (at row col : ℕ) → ((k : ℕ) → k < at → Among (get_or ids k 0) (rows_of m)) → row ≡ get_or ids at 0 → Among (row, col) m → (k : ℕ) → k < at + 1 → Among (get_or ids k 0) (rows_of m)
matched_more m ids at row col before is pair k lt = ⊎_elim (λ (e : k ≡ at). subst (λ z. Among z (rows_of m)) (is ∙ sym (ap (λ i. get_or ids i 0) e)) (row_among row col m pair)) (λ (ne : ¬ (k ≡ at)). before k (omega (arith, lt, ne))) (number_same k at)

-- a pair more matches the next column
pub covered_more : (a : Matrix) (old new : List Place) (row col : ℕ) → ((p : Place) → Among p new ↔ ((p ≡ (row, col)) ⊎ Among p old)) → ((r c : ℕ) → c < col → IsEntry a r c → Among c (cols_of old)) → (r c : ℕ) → c < col + 1 → IsEntry a r c → Among c (cols_of new)
covered_more a old new row col grown had r c lt e = ⊎_elim (λ (same : c ≡ col). subst (λ z. Among z (cols_of new)) (sym same) (col_among row col new ((grown (row, col)).1 (inl refl))))
    (λ (ne : ¬ (c ≡ col)). let (s, p) = col_pair c old (had r c (omega (arith, lt, ne)) e) in col_among s c new ((grown (s, c)).1 (inr p))) (number_same c col)

-- a column without entries needs none
pub covered_none : (a : Matrix) (m : List Place) (col : ℕ) → ((r : ℕ) → ¬ IsEntry a r col) → ((r c : ℕ) → c < col → IsEntry a r c → Among c (cols_of m)) → (r c : ℕ) → c < col + 1 → IsEntry a r c → Among c (cols_of m)
covered_none a m col none had r c lt e = ⊎_elim (λ (same : c ≡ col). absurd (none r (subst (IsEntry a r) same e))) (λ (ne : ¬ (c ≡ col)). had r c (omega (arith, lt, ne)) e) (number_same c col)

-- a column with no ids has no entries
pub no_entries : (a : Matrix) (n : ℕ) (starts ids : List ℕ) (col : ℕ) → ((r : ℕ) → IsEntry a r col ↔ ((col < n) × Among r (piece starts ids col))) → get_or starts (col + 1) 0 ≤ get_or starts col 0 → (r : ℕ) → ¬ IsEntry a r col
no_entries a n starts ids col entries le r e = elim (subst (Among r) (slice_none ids (get_or starts col 0) (get_or starts (col + 1) 0) le) ((entries r).0 e).1) [ ]

-- one pair more, of an entry in the next column
pub entries_more : (a : Matrix) (old new : List Place) (row col : ℕ) → ((p : Place) → Among p new ↔ ((p ≡ (row, col)) ⊎ Among p old)) → IsEntry a row col → AreEntries a old → AreEntries a new
entries_more a old new row col grown entry had r c h = ⊎_elim (λ (e : (r, c) ≡ (row, col)). subst (λ (p : Place). IsEntry a p.0 p.1) (sym e) entry) (λ (k : Among (r, c) old). had r c k) ((grown (r, c)).0 h)

pub columns_more : (old new : List Place) (row col : ℕ) → ((p : Place) → Among p new ↔ ((p ≡ (row, col)) ⊎ Among p old)) → ((c : ℕ) → Among c (cols_of old) → c < col) → (c : ℕ) → Among c (cols_of new) → c < col + 1
columns_more old new row col grown before c h =
    let (r, k) = col_pair c new h in
    ⊎_elim (λ (e : (r, c) ≡ (row, col)). let same = ap (λ (p : Place). p.1) e in omega (arith, same)) (λ (g : Among (r, c) old). let lt = before c (col_among r c old g) in omega (arith, lt)) ((grown (r, c)).0 k)

-- no start is less than one before it
rising_to : (starts ids : List ℕ) → AreStarts starts ids → (i k : ℕ) → i + k < length starts → get_or starts i 0 ≤ get_or starts (i + k) 0
rising_to starts ids are i zero lt = let same = ap (λ j. get_or starts j 0) (let e : i ≡ i + 0 = omega arith in e) in omega (arith, same)
rising_to starts ids are i (suc k) lt =
    let before = rising_to starts ids are i k (omega (arith, lt)) in
    let step = are.rise (i + k) (omega (arith, lt)) in
    let same = ap (λ j. get_or starts j 0) (let e : i + k + 1 ≡ i + suc k = omega arith in e) in
    omega (arith, before, step, same)

-- and none is greater than the number of ids
pub start_inside : (starts ids : List ℕ) → AreStarts starts ids → (i : ℕ) → i < length starts → get_or starts i 0 ≤ length ids
start_inside starts ids are i lt =
    let up = rising_to starts ids are i (length starts - 1 - i) (omega (arith, lt)) in
    let same = ap (λ j. get_or starts j 0) (let e : i + (length starts - 1 - i) ≡ length starts - 1 = omega (arith, lt) in e) in
    let last = are.last in
    omega (arith, up, same, last)
