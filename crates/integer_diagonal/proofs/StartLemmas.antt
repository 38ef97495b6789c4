-- The first dual variables, prices and pairs.
use Rattle.std.proofs.Common.{◌≡◌, ◌≢◌, ◌⊎◌, ◌∙◌, ℕ, slice_index, ◌+◌, ◌-◌, ◌<◌, ◌≤◌, List, [], ◌∷◌, ◌++◌, true, true≢false, get_or, length, replicate, refl, sym, ap, subst, inl, inr, ⊎_elim, arith, below_more, length-append}
use Rattle.std.specs.Option.{is_some, IfSome}
use Rattle.std.specs.Prelude.{Option, None, Some}
use Rattle.std.proofs.Math.Decide.{dec_lt}
use Rattle.std.proofs.Math.Seq.{get_or-append_seam}
use Rattle.std.proofs.lemmas.List.{get_or_append_left, get_or_past, get_or_read, length-replicate}
use Rattle.bip_defs.specs.Lists.{Among, AreDistinct, IsRising}
use Rattle.bip_defs.specs.Matching.{cols_of, rows_of}
use Rattle.bip_defs.specs.Matrix.{AreEntries, IsEntry, Matrix, Place, cols, column}
use Rattle.bip_defs.proofs.Sets.{among_at, entry_col, number_same, place_among, rising_distinct}
use Rattle.bip_graph.specs.Matching.{Pairing}
use Rattle.integer_diagonal.proofs.Repeated.{repeated}
use Rattle.integer_diagonal.specs.Duals.{AreAtMost, IsAssigned, Priced, cheap, cost}
use Rattle.integer_diagonal.specs.FirstPrices.{AreFirstDuals, AreFirstPrices, IsTight}
use Rattle.sp_pattern.specs.Weights.{Weighing, weight_at}

-- The dual variables.

-- what is read of a list that has grown by one
read_old : (os : List ℕ) (x n c : ℕ) → length os ≡ n → c < n → slice_index (os ++ x ∷ []) c ≡ slice_index os c
read_old os x n c long lt = get_or_append_left os (x ∷ []) 0 c (omega arith)

read_new : (os : List ℕ) (x n c : ℕ) → length os ≡ n → c ≡ n → slice_index (os ++ x ∷ []) c ≡ x
read_new os x n c long e = ap (λ k. slice_index (os ++ x ∷ []) k) (e ∙ sym long) ∙ get_or-append_seam os x [] 0

read_low : (os : List ℕ) (x n c most : ℕ) → length os ≡ n → x ≤ most → ((c : ℕ) → slice_index os c ≤ most) → slice_index (os ++ x ∷ []) c ≤ most
read_low os x n c most long small low = ⊎_elim (λ (e : c ≡ n). let new = read_new os x n c long e in omega (arith, new)) (λ (ne : c ≢ n). by ne (dec_lt c n)) (number_same c n)
  where
    by : c ≢ n → Dec (c < n) → slice_index (os ++ x ∷ []) c ≤ most
    by ne (yes lt) = let old = read_old os x n c long lt in let was = low c in omega (arith, old, was)
    by ne (no ge) =
        let longer = length-append os (x ∷ []) in
        let past = get_or_past (os ++ x ∷ []) c 0 (omega (arith, longer, long)) in
        omega (arith, past)

-- the column n, whose weights are these
pub record AreColumn (w : Weighing) (top n : ℕ) (weights : List ℕ) (most : ℕ) : Type 0 where
  pub long : length weights ≡ length (column w.matrix n)
  pub each : (k : ℕ) → k < length weights → slice_index weights k ≡ weight_at w (slice_index (column w.matrix n) k) n
  pub bound : (k : ℕ) → k < length weights → slice_index weights k ≤ most
  pub met : (most ≡ 0) ⊎ Among most weights
  pub fits : most ≤ top

weight_below : (w : Weighing) (top n most : ℕ) (weights : List ℕ) (r : ℕ) → AreColumn w top n weights most → Among r (column w.matrix n) → weight_at w r n ≤ most
weight_below w top n most weights r k on =
    let (j, within, at) = place_among r 0 (column w.matrix n) on in
    let inside : j < length weights = (let long = k.long in omega (arith, long, within)) in
    let is = k.each j inside ∙ ap (λ z. weight_at w z n) at in
    let below = k.bound j inside in
    omega (arith, is, below)

dual_met : (w : Weighing) (top n most : ℕ) (weights : List ℕ) → AreColumn w top n weights most → IsTight w top n (top + (top - most))
dual_met w top n most weights k = by k.met
  where
    by : (most ≡ 0) ⊎ Among most weights → IsTight w top n (top + (top - most))
    by (inl zero_is) = inl (omega (arith, zero_is))
    by (inr on) =
        let (j, within, at) = place_among most 0 weights on in
        let inside : j < length (column w.matrix n) = (let long = k.long in omega (arith, long, within)) in
        let is = sym (k.each j within) ∙ at in
        inr (slice_index (column w.matrix n) j, among_at (column w.matrix n) j 0 inside, ap (λ z. top + (top - z)) is)

pub duals_more : (w : Weighing) (top n most : ℕ) (os weights : List ℕ) → AreFirstDuals w top n os → AreColumn w top n weights most → AreFirstDuals w top (n + 1) (os ++ (top + (top - most)) ∷ [])
duals_more w top n most os weights l k = record {
  duals_are = (let longer = length-append os (last ∷ []) in let long = l.duals_are in omega (arith, longer, long));
  low = λ c. read_low os last n c (top + top) l.duals_are (omega arith) l.low;
  high = λ c lt. at_each (λ c o. top ≤ o) (omega arith) l.high c lt (number_same c n);
  covers = λ r c lt. at_each (λ c o. IsEntry w.matrix r c → o ≤ top + cost top w r c) (λ e. let low = weight_below w top n most weights r k e.1 in omega (arith, low)) (λ c below. l.covers r c below) c lt (number_same c n);
  met = λ c lt. at_each (IsTight w top) (dual_met w top n most weights k) l.met c lt (number_same c n);
}
  where
    last : ℕ
    last = top + (top - most)

    -- what holds of the old dual variables and of the last
    at_each : (P : ℕ → ℕ → Type 0) → P n last → ((c : ℕ) → c < n → P c (slice_index os c)) → (c : ℕ) → c < n + 1 → (c ≡ n) ⊎ (c ≢ n) → P c (slice_index (os ++ last ∷ []) c)
    at_each P here before c lt (inl is) = subst (P c) (sym (read_new os last n c l.duals_are is)) (subst (λ z. P z last) (sym is) here)
    at_each P here before c lt (inr ne) =
        let below : c < n = omega arith in
        subst (P c) (sym (read_old os last n c l.duals_are below)) (before c below)

-- what is read of a column's weights is not more than the greatest of all
pub weight_small : (w : Weighing) (top : ℕ) (a : Matrix) (col k : ℕ) (rows weights : List ℕ) → w.matrix ≡ a → rows ≡ column a col → AreAtMost w top → length weights ≡ length (column w.matrix col) → ((j : ℕ) → j < length weights → slice_index weights j ≡ weight_at w (slice_index (column w.matrix col) j) col) → k < length rows → slice_index weights k ≤ top
weight_small w top a col k rows weights same rows_are small long each lt =
    let size = ap (λ (z : List ℕ). length z) (rows_are ∙ ap (λ (z : Matrix). column z col) (sym same)) in
    let inside : k < length weights = omega (arith, long, size, lt) in
    let low = small (slice_index (column w.matrix col) k) col (among_at (column w.matrix col) k 0 (omega (arith, long, inside))) in
    let is = each k inside in
    omega (arith, low, is)

-- the greatest weight of a column is not more than that of all
pub column_small : (w : Weighing) (top n most : ℕ) (weights : List ℕ) → AreAtMost w top → length weights ≡ length (column w.matrix n) → ((k : ℕ) → k < length weights → slice_index weights k ≡ weight_at w (slice_index (column w.matrix n) k) n) → (most ≡ 0) ⊎ Among most weights → most ≤ top
column_small w top n most weights small long each (inl zero_is) = omega (arith, zero_is)
column_small w top n most weights small long each (inr on) =
    let (j, within, at) = place_among most 0 weights on in
    let low = weight_small w top w.matrix n j (column w.matrix n) weights refl refl small long each (omega (arith, long, within)) in
    omega (arith, low, at)

-- the columns below n have no greater weight
abbrev pub AreFirstAtMost : Weighing → ℕ → ℕ → Type 0
AreFirstAtMost w n top = (r c : ℕ) → c < n → Among r (column w.matrix c) → weight_at w r c ≤ top

pub most_next : (w : Weighing) (n old here new : ℕ) (weights : List ℕ) → AreFirstAtMost w n old → length weights ≡ length (column w.matrix n) → ((k : ℕ) → k < length weights → slice_index weights k ≡ weight_at w (slice_index (column w.matrix n) k) n) → ((k : ℕ) → k < length weights → slice_index weights k ≤ here) → old ≤ new → here ≤ new → AreFirstAtMost w (n + 1) new
most_next w n old here new weights first long each bound rise more r c lt on = by (number_same c n)
  where
    by : (c ≡ n) ⊎ (c ≢ n) → weight_at w r c ≤ new
    by (inr ne) = let was = first r c (omega arith) on in omega (arith, was, rise)
    by (inl is) =
        let (j, within, at) = place_among r 0 (column w.matrix n) (subst (λ z. Among r (column w.matrix z)) is on) in
        let low = bound j (omega (arith, long, within)) in
        let e = each j (omega (arith, long, within)) ∙ ap (λ z. weight_at w z n) at in
        subst (λ z. weight_at w r z ≤ new) (sym is) (omega (arith, low, e, more))

-- a column that is past the last has no entries
pub most_all : (w : Weighing) (n top : ℕ) → AreFirstAtMost w n top → cols w.matrix ≤ n → AreAtMost w top
most_all w n top first all r c on = by (dec_lt c n)
  where
    by : Dec (c < n) → weight_at w r c ≤ top
    by (yes lt) = first r c lt on
    by (no ge) = absurd (subst (λ (z : List ℕ). Among r z) (get_or_past w.matrix.columns c [] (omega (arith, all, ge))) on)

-- The prices.

pub prices_none : (w : Weighing) (top : ℕ) (duals prices : List ℕ) → prices ≡ replicate w.matrix.rows 0 → AreFirstPrices w top 0 duals prices
prices_none w top duals prices free = record {
  prices_are = ap (λ (z : List ℕ). length z) free ∙ length-replicate {A = ℕ} w.matrix.rows 0;
  low = λ r. (let zero_is = ap (λ (z : List ℕ). slice_index z r) free ∙ repeated w.matrix.rows r 0 in omega (arith, zero_is));
  covers = λ r c lt e. absurd (omega arith);
}

pub prices_more : (w : Weighing) (top n : ℕ) (duals old new : List ℕ) → AreFirstPrices w top n duals old → length new ≡ length old → ((r : ℕ) → slice_index new r ≤ top) → ((r : ℕ) → slice_index old r ≤ slice_index new r) → ((r : ℕ) → IsEntry w.matrix r n → slice_index duals n ≤ slice_index new r + cost top w r n) → AreFirstPrices w top (n + 1) duals new
prices_more w top n duals old new f long low rise covers = record {
  prices_are = long ∙ f.prices_are;
  low = low;
  covers = λ r c lt e. by r c lt e (number_same c n);
}
  where
    by : (r c : ℕ) → c < n + 1 → IsEntry w.matrix r c → (c ≡ n) ⊎ (c ≢ n) → slice_index duals c ≤ slice_index new r + cost top w r c
    by r c lt e (inl is) = subst (λ z. slice_index duals z ≤ slice_index new r + cost top w r z) (sym is) (covers r (subst (IsEntry w.matrix r) is e))
    by r c lt e (inr ne) = let was = f.covers r c (omega arith) e in let more = rise r in omega (arith, was, more)

-- a row's price is raised to this
pub record IsRaisedTo (old new : List ℕ) (row least : ℕ) : Type 0 where
  pub met : least ≤ slice_index new row
  pub low : (r : ℕ) → (slice_index new r ≤ slice_index old r) ⊎ (slice_index new r ≡ least)
  pub rise : (r : ℕ) → slice_index old r ≤ slice_index new r

-- the prices at the place k of a column that is being raised
pub record AreRaisedIn (w : Weighing) (top col k dual_is : ℕ) (rows old new : List ℕ) : Type 0 where
  pub long : length new ≡ length old
  pub low : (r : ℕ) → slice_index new r ≤ top
  pub rise : (r : ℕ) → slice_index old r ≤ slice_index new r
  pub part : (j : ℕ) → j < k → dual_is ≤ slice_index new (slice_index rows j) + cost top w (slice_index rows j) col

pub raising_more : (w : Weighing) (top col k o row weight : ℕ) (rows old now new : List ℕ) → AreRaisedIn w top col k o rows old now → length new ≡ length now → row ≡ slice_index rows k → cost top w row col ≡ top - weight → o ≤ top + cost top w row col → IsRaisedTo now new row (o - (top - weight)) → AreRaisedIn w top col (k + 1) o rows old new
raising_more w top col k o row weight rows old now new i long read costs small up = record {
  long = long ∙ i.long;
  low = λ r. (let was = i.low r in ⊎_elim (λ (less : slice_index new r ≤ slice_index now r). (let z : slice_index new r ≤ top = omega (arith, was, less) in z)) (λ (is : slice_index new r ≡ o - (top - weight)). (let z : slice_index new r ≤ top = omega (arith, is, costs, small) in z)) (up.low r));
  rise = λ r. (let was = i.rise r in let more = up.rise r in omega (arith, was, more));
  part = below_more (λ j. o ≤ slice_index new (slice_index rows j) + cost top w (slice_index rows j) col) k (λ j lt. let was = i.part j lt in let more = up.rise (slice_index rows j) in omega (arith, was, more)) (subst (λ z. o ≤ slice_index new z + cost top w z col) read (let met = up.met in omega (arith, met, costs)));
}

pub raising_all : (w : Weighing) (top : ℕ) (a : Matrix) (col k o : ℕ) (rows old new duals : List ℕ) → AreRaisedIn w top col k o rows old new → o ≡ slice_index duals col → rows ≡ column a col → length rows ≤ k → (r : ℕ) → IsEntry a r col → slice_index duals col ≤ slice_index new r + cost top w r col
raising_all w top a col k o rows old new duals i is rows_are long r e =
    let (j, within, at) = place_among r 0 rows (subst (λ (z : List ℕ). Among r z) (sym rows_are) e.1) in
    subst (λ z. slice_index duals col ≤ slice_index new z + cost top w z col) at (let low = i.part j (omega (arith, within, long)) in omega (arith, low, is))

-- The first pairs.

-- pairs of entries that cost no more than the dual variables, in the columns below n
pub record AreFirst (x : Priced) (n : ℕ) (m : Pairing) : Type 0 where
  pub rows_are : m.rows ≡ x.weighing.matrix.rows
  pub cols_are : m.cols ≡ cols x.weighing.matrix
  pub entries : AreEntries (cheap x) m.pairs
  pub below : (c : ℕ) → Among c (cols_of m.pairs) → c < n

abbrev pub begun : Weighing → ℕ → List ℕ → List ℕ → Priced
begun w top prices duals = record { weighing = w; top = top; prices = prices; duals = duals }

module _ (x : Priced) where
  pub first_none : (m : Pairing) → m.rows ≡ x.weighing.matrix.rows → m.cols ≡ cols x.weighing.matrix → m.pairs ≡ [] → AreFirst x 0 m
  first_none m rows_are cols_are empty = record {
    rows_are = rows_are;
    cols_are = cols_are;
    entries = λ r c h. absurd (subst (λ (z : List Place). Among {X = Place} (r, c) z) empty h);
    below = λ c h. absurd (subst (λ (z : List Place). Among c (cols_of z)) empty h);
  }

  pub start_assigned : (n : ℕ) (m : Pairing) → ((r c : ℕ) → IsEntry x.weighing.matrix r c → weight_at x.weighing r c ≤ x.top) → AreFirst x n m → AreFirstDuals x.weighing x.top (cols x.weighing.matrix) x.duals → AreFirstPrices x.weighing x.top (cols x.weighing.matrix) x.duals x.prices → AreDistinct (rows_of m.pairs) → IsRising (cols_of m.pairs) → IsAssigned x m
  start_assigned n m small f duals prices rows_differ rising = record {
    rows_are = f.rows_are;
    cols_are = f.cols_are;
    feasible = record {
      prices_are = prices.prices_are;
      duals_are = duals.duals_are;
      small = small;
      covers = λ r c e. prices.covers r c (entry_col x.weighing.matrix r c e) e;
    };
    matching = record { entries = f.entries; rows_differ = rows_differ; cols_differ = rising_distinct (cols_of m.pairs) rising };
    bounded = record {
      free_rows = λ r off. prices.low r;
      free_cols = λ c off. duals.low c;
      prices = λ r. (let low = prices.low r in omega (arith, low));
    };
  }

-- One number more is looked at for the greatest.

abbrev pub BoundFirst : List ℕ → ℕ → ℕ → Type 0
BoundFirst xs n most = (k : ℕ) → k < n → slice_index xs k ≤ most

abbrev pub IsMetIn : List ℕ → ℕ → Type 0
IsMetIn xs most = (most ≡ 0) ⊎ Among most xs

pub greatest_next : (xs : List ℕ) (n most new : ℕ) → n < length xs → BoundFirst xs n most → IsMetIn xs most → ((new ≡ slice_index xs n) × (most ≤ new)) ⊎ ((new ≡ most) × (slice_index xs n ≤ most)) → BoundFirst xs (n + 1) new × IsMetIn xs new
greatest_next xs n most new lt bound met (inl (is, more)) = (below_more (λ k. slice_index xs k ≤ new) n (λ k inside. let low = bound k inside in omega (arith, low, more)) (omega (arith, is)), inr (subst (λ z. Among z xs) (sym is) (among_at xs n 0 lt)))
greatest_next xs n most new lt bound met (inr (is, low)) = (below_more (λ k. slice_index xs k ≤ new) n (λ k inside. let old = bound k inside in omega (arith, old, is)) (omega (arith, is, low)), subst (IsMetIn xs) (sym is) met)

-- what the entry at a place of the column costs
pub cost_here : (w : Weighing) (top : ℕ) (a : Matrix) (col k r : ℕ) (rows weights : List ℕ) → w.matrix ≡ a → rows ≡ column a col → length weights ≡ length (column w.matrix col) → ((j : ℕ) → j < length weights → slice_index weights j ≡ weight_at w (slice_index (column w.matrix col) j) col) → k < length rows → r ≡ slice_index rows k → cost top w r col ≡ top - slice_index weights k
cost_here w top a col k r rows weights same rows_are long each lt is =
    let all : rows ≡ column w.matrix col = rows_are ∙ ap (λ (z : Matrix). column z col) (sym same) in
    let size = ap (λ (z : List ℕ). length z) all in
    let inside : k < length weights = omega (arith, long, size, lt) in
    let read : r ≡ slice_index (column w.matrix col) k = is ∙ ap (λ (z : List ℕ). slice_index z k) all in
    ap (λ z. top - z) (ap (λ z. weight_at w z col) read ∙ sym (each k inside))

-- what is read at the number of a row or a column
pub read_at : (xs : List ℕ) (n index read : ℕ) → index ≡ n → n < length xs → read ≡ get_or xs index read → read ≡ slice_index xs n
read_at xs n index read is lt e = get_or_read xs index read (omega (arith, is, lt)) e 0 ∙ ap (λ k. slice_index xs k) is

-- what a test of an answer's case says
pub some_holds : (o : Option ℕ) (P : ℕ → Type 0) → is_some o ≡ true → IfSome o P → (x : ℕ) × P x
some_holds None P e h = absurd (true≢false (sym e))
some_holds (Some x) P e h = (x, h)
