-- What compressed rows with values give.
use Rattle.std.specs.List.{slice_range}
use Rattle.std.proofs.Common.{◌≡◌, ◌≢◌, ◌⊎◌, ◌∙◌, ℕ, ℤ, true, false, suc, pos, ◌+◌, ◌-◌, ◌<◌, ◌≤◌, List, [], ◌∷◌, ◌++◌, length, get_or, drop, take, map, refl, sym, ap, arith, subst, inl, inr, length-append, append_assoc}
use Rattle.std.proofs.lemmas.List.{get_or-take, get_or-drop, length-drop, map-append, take_more}
use Rattle.bip_defs.specs.Lists.{Among}
use Rattle.bip_defs.specs.Matrix.{IsEntry, Matrix}
use Rattle.bip_defs.specs.Pieces.{AreStarts, piece}
use Rattle.bip_defs.proofs.Pieces.{length-slice_range, start_within}
use Rattle.bip_defs.proofs.Sets.{number_same, place_among}
use Rattle.bip_defs.proofs.Transposed.{transpose_is}
use Rattle.sp_ids.specs.Entries.{Entries, Triple, with_entry}
use Rattle.sp_pattern.specs.Columns.{matrix_of}
use Rattle.sp_pattern.specs.ValuedColumns.{IsFirstId, IsFirstIdPast, entries_given, triples_in, triples_of_first}
use Rattle.sp_pattern.specs.Weights.{AreWeightsOf, IsFirstPast, Weighing}
use Rattle.blocktri.specs.Compressed.{CompressedLists, listed, matrix_given, pick, transpose_if}
use Rattle.blocktri.specs.Weighted.{AreValued, AreWeightsGiven, IsFirstGivenPast, WeightedLists, entries_of, turn_if, turned_triple}

-- The first id of a place.

part_place : (xs : List ℕ) (from to x : ℕ) → to ≤ length xs → Among x (slice_range xs from to) → (k : ℕ) × (from ≤ k) × (k < to) × (get_or xs k 0 ≡ x)
part_place xs from to x within h =
    let (j, lt, is) = place_among x 0 (slice_range xs from to) h in
    let long = length-slice_range xs from to within in
    (from + j, omega arith, omega (arith, lt, long), sym (get_or-take (to - from) (drop from xs) j 0 (omega (arith, lt, long)) ∙ get_or-drop from xs j 0) ∙ is)

-- it stands farther on, where it is not at k
pub first_farther : (starts ids : List ℕ) (row col k : ℕ) → AreStarts starts ids → row + 1 < length starts → Among col (piece starts ids row) → get_or starts row 0 ≤ k → k < get_or starts (row + 1) 0
    → ((h : ℕ) → get_or starts row 0 ≤ h → h < k → get_or ids h 0 ≢ col) → get_or ids k 0 ≢ col → (k + 1 < get_or starts (row + 1) 0) × ((h : ℕ) → get_or starts row 0 ≤ h → h < k + 1 → get_or ids h 0 ≢ col)
first_farther starts ids row col k are lt given from to before ne = (farther, λ h low high. by h low high (number_same h k))
  where
    by : (h : ℕ) → get_or starts row 0 ≤ h → h < k + 1 → (h ≡ k) ⊎ (h ≢ k) → get_or ids h 0 ≢ col
    by h low high (inl e) = λ is. ne (sym (ap (λ i. get_or ids i 0) e) ∙ is)
    by h low high (inr other) = before h low (omega (arith, high, other))

    farther : k + 1 < get_or starts (row + 1) 0
    farther =
        let (j, low, high, is) = part_place ids (get_or starts row 0) (get_or starts (row + 1) 0) col (start_within starts ids are (row + 1) lt) given in
        let past : j < k → ⊥ = λ l. before j low l is in
        let here : j ≡ k → ⊥ = λ e. ne (sym (ap (λ i. get_or ids i 0) e) ∙ is) in
        omega (arith, low, high, past, here)

-- The entries that compressed rows give.

range_grows : {X : Type 0} (xs : List X) (d : X) (from k : ℕ) → from ≤ k → k < length xs → slice_range xs from (k + 1) ≡ slice_range xs from k ++ get_or xs k d ∷ []
range_grows xs d from k le lt =
    let long = length-drop from xs in
    let more : k + 1 - from ≡ k - from + 1 = omega (arith, le) in
    let back : from + (k - from) ≡ k = omega (arith, le) in
    ap (λ n. take n (drop from xs)) more ∙ take_more (drop from xs) (k - from) d (omega (arith, le, lt, long))
    ∙ ap (λ x. slice_range xs from k ++ x ∷ []) (get_or-drop from xs (k - from) d ∙ ap (λ i. get_or xs i d) back)

in_more : (c : ℕ) (ids : List ℕ) (vs : List ℤ) (r : ℕ) (v : ℤ) → length vs ≡ length ids → triples_in c (ids ++ r ∷ []) (vs ++ v ∷ []) ≡ triples_in c ids vs ++ record { row = r; col = c; value = v } ∷ []
in_more c [] [] r v e = refl
in_more c [] (u ∷ vs) r v e = absurd (omega (arith, e))
in_more c (x ∷ ids) [] r v e = absurd (omega (arith, e))
in_more c (x ∷ ids) (u ∷ vs) r v e = ap (λ (ts : List Triple). record { row = x; col = c; value = u } ∷ ts) (in_more c ids vs r v (omega (arith, e)))

-- the entries of a row's ids from one place to before another
abbrev pub turned_row : WeightedLists → ℕ → ℕ → ℕ → List Triple
turned_row m row from to = map turned_triple (triples_in row (slice_range m.lists.ids from to) (slice_range m.values from to))

abbrev pub turned_first : WeightedLists → ℕ → List Triple
turned_first m row = map turned_triple (triples_of_first row m.lists.starts m.lists.ids m.values)

row_more : (m : WeightedLists) (row from k : ℕ) → AreValued m → from ≤ k → k < length m.lists.ids → turned_row m row from (k + 1) ≡ turned_row m row from k ++ record { row = row; col = get_or m.lists.ids k 0; value = get_or m.values k (pos 0) } ∷ []
row_more m row from k valued le lt =
    let ids = range_grows m.lists.ids 0 from k le lt in
    let vs = range_grows m.values (pos 0) from k le (omega (arith, valued, lt)) in
    let long = length-slice_range m.lists.ids from k (omega (arith, lt)) in
    let many = length-slice_range m.values from k (omega (arith, valued, lt)) in
    let both : triples_in row (slice_range m.lists.ids from (k + 1)) (slice_range m.values from (k + 1)) ≡ triples_in row (slice_range m.lists.ids from k ++ get_or m.lists.ids k 0 ∷ []) (slice_range m.values from k ++ get_or m.values k (pos 0) ∷ []) = λ i. triples_in row (ids i) (vs i) in
    ap (map turned_triple) (both ∙ in_more row (slice_range m.lists.ids from k) (slice_range m.values from k) (get_or m.lists.ids k 0) (get_or m.values k (pos 0)) (omega (arith, long, many)))
    ∙ map-append turned_triple (triples_in row (slice_range m.lists.ids from k) (slice_range m.values from k)) (record { row = get_or m.lists.ids k 0; col = row; value = get_or m.values k (pos 0) } ∷ [])

-- one entry more
pub row_pushed : (m : WeightedLists) (old new : Entries) (row from k n : ℕ) (v : ℤ) → AreValued m → from ≤ k → k < length m.lists.ids → new ≡ with_entry old (record { row = row; col = n; value = v }) → n ≡ get_or m.lists.ids k 0 → v ≡ get_or m.values k (pos 0)
    → length old.items ≡ k → old.items ≡ turned_first m row ++ turned_row m row from k → (length new.items ≡ k + 1) × (new.items ≡ turned_first m row ++ turned_row m row from (k + 1))
row_pushed m old new row from k n v valued le lt is col value long was = (
  let e = ap length items ∙ length-append old.items (record { row = row; col = n; value = v } ∷ []) in omega (arith, e, long),
  items ∙ joined,
)
  where
    items : new.items ≡ old.items ++ record { row = row; col = n; value = v } ∷ []
    items = ap (λ (t : Entries). t.items) is

    last : ◌≡◌ {A = Triple} (record { row = row; col = n; value = v }) (record { row = row; col = get_or m.lists.ids k 0; value = get_or m.values k (pos 0) })
    last = λ i. record { row = row; col = col i; value = value i }

    joined : old.items ++ record { row = row; col = n; value = v } ∷ [] ≡ turned_first m row ++ turned_row m row from (k + 1)
    joined = ap (λ (ts : List Triple). ts ++ record { row = row; col = n; value = v } ∷ []) was ∙ append_assoc (turned_first m row) (turned_row m row from k) (record { row = row; col = n; value = v } ∷ [])
        ∙ ap (λ (t : Triple). turned_first m row ++ (turned_row m row from k ++ t ∷ [])) last ∙ ap (λ (ts : List Triple). turned_first m row ++ ts) (sym (row_more m row from k valued le lt))

-- one row more
pub row_done : (m : WeightedLists) (row from k : ℕ) → from ≡ get_or m.lists.starts row 0 → k ≡ get_or m.lists.starts (row + 1) 0 → turned_first m row ++ turned_row m row from k ≡ turned_first m (row + 1)
row_done m row from k low high =
    let one : suc row ≡ row + 1 = omega arith in
    let cut : turned_row m row from k ≡ turned_row m row (get_or m.lists.starts row 0) (get_or m.lists.starts (row + 1) 0) = λ i. turned_row m row (low i) (high i) in
    ap (λ (ts : List Triple). turned_first m row ++ ts) cut ∙ sym (map-append turned_triple (triples_of_first row m.lists.starts m.lists.ids m.values) (triples_in row (piece m.lists.starts m.lists.ids row) (piece m.lists.starts m.values row)))
    ∙ ap (turned_first m) one

-- Weights.

pub weights_same : (t s : Entries) (a b : Matrix) (w : Weighing) → t ≡ s → a ≡ b → AreWeightsOf t a w → AreWeightsOf s b w
weights_same t s a b w e f h = subst (λ u. AreWeightsOf u b w) e (subst (λ c. AreWeightsOf t c w) f h)

past_same : (t s : Entries) (a b : Matrix) (r c : ℕ) → t ≡ s → a ≡ b → IsFirstPast t a r c → IsFirstPast s b r c
past_same t s a b r c e f h = subst (λ u. IsFirstPast u b r c) e (subst (λ x. IsFirstPast t x r c) f h)

-- Of compressed columns.

listed_given : (l : CompressedLists) (a : Matrix) → l.by_rows ≡ false → a ≡ matrix_given l → a ≡ listed l
listed_given l a columns is = is ∙ ap (λ b. transpose_if b (listed l)) columns

pub columns_rows : (l : CompressedLists) (a : Matrix) → l.by_rows ≡ false → a ≡ matrix_given l → a.rows ≡ l.others
columns_rows l a columns is = ap (λ (b : Matrix). b.rows) (listed_given l a columns is)

pub columns_matrix : (l : CompressedLists) (a : Matrix) → l.by_rows ≡ false → a ≡ matrix_given l → a ≡ matrix_of a.rows l.starts l.ids
columns_matrix l a columns is = listed_given l a columns is ∙ ap (λ n. matrix_of n l.starts l.ids) (sym (columns_rows l a columns is))

columns_entries : (m : WeightedLists) (a : Matrix) → m.lists.by_rows ≡ false → a ≡ matrix_given m.lists → entries_given a.rows m.lists.starts m.lists.ids m.values ≡ entries_of m
columns_entries m a columns is = ap (λ n. entries_given n m.lists.starts m.lists.ids m.values) (columns_rows m.lists a columns is) ∙ sym (ap (λ b. turn_if b (entries_given m.lists.others m.lists.starts m.lists.ids m.values)) columns)

pub columns_weights : (m : WeightedLists) (a : Matrix) (w : Weighing) → m.lists.by_rows ≡ false → a ≡ matrix_given m.lists → AreWeightsOf (entries_given a.rows m.lists.starts m.lists.ids m.values) a w → AreWeightsGiven m w
columns_weights m a w columns is h = weights_same (entries_given a.rows m.lists.starts m.lists.ids m.values) (entries_of m) a (matrix_given m.lists) w (columns_entries m a columns is) is h

pub columns_past : (m : WeightedLists) (a : Matrix) (k : ℕ) → m.lists.by_rows ≡ false → a ≡ matrix_given m.lists → IsFirstIdPast a.rows m.lists.starts m.lists.ids m.values k → IsFirstGivenPast m k
columns_past m a k columns is h = record {
  row = h.row;
  col = h.col;
  past = past_same (entries_given a.rows m.lists.starts m.lists.ids m.values) (entries_of m) (matrix_of a.rows m.lists.starts m.lists.ids) (matrix_given m.lists) h.row h.col (columns_entries m a columns is) (sym (columns_matrix m.lists a columns is) ∙ is) h.past;
  id = subst (λ b. IsFirstId m.lists.starts m.lists.ids (pick b h.col h.row) (pick b h.row h.col) k) (sym columns) h.id;
}

-- Of compressed rows.

pub rows_entry : (l : CompressedLists) (a : Matrix) (r c : ℕ) → ((s d : ℕ) → IsEntry (listed l) s d → (d < length l.starts - 1) × Among s (piece l.starts l.ids d)) → l.by_rows ≡ true → a ≡ matrix_given l → IsEntry a r c
    → (r < length l.starts - 1) × Among c (piece l.starts l.ids r)
rows_entry l a r c law rows is entry = law c r ((transpose_is (listed l)).back c r (subst (λ b. IsEntry b r c) (is ∙ ap (λ b. transpose_if b (listed l)) rows) entry))

pub rows_past : (m : WeightedLists) (t : Entries) (a : Matrix) (r c k : ℕ) → m.lists.by_rows ≡ true → t ≡ entries_of m → a ≡ matrix_given m.lists → IsFirstPast t a r c → IsFirstId m.lists.starts m.lists.ids c r k → IsFirstGivenPast m k
rows_past m t a r c k rows e is past id = record {
  row = r;
  col = c;
  past = past_same t (entries_of m) a (matrix_given m.lists) r c e is past;
  id = subst (λ b. IsFirstId m.lists.starts m.lists.ids (pick b c r) (pick b r c) k) (sym rows) id;
}
