-- What exchanging a path leaves, step by step, and that an augmenting path shows a longer matching.
use Rattle.std.proofs.Common.{◌≡◌, ◌≢◌, ◌⊎◌, ◌∙◌, ℕ, suc, ◌<◌, ◌≤◌, List, [], ◌∷◌, drop, length, slice_index_or, refl, sym, ap, subst, inl, inr, ⊎_elim, arith, drop-cons, drop_of_length-le}
use Rattle.std.proofs.Math.Decide.{dec_lt}
use Rattle.bip_defs.specs.Lists.{Among, AreDistinct}
use Rattle.bip_defs.specs.Matching.{IsMatching, IsMaximum, cols_of, rows_of}
use Rattle.bip_defs.specs.Matrix.{AreEntries, IsEntry, Matrix, Place}
use Rattle.bip_defs.specs.Paths.{Alternates, BeginsUnmatched, Exchanges, IsParted, Reassigns, IsAugmenting}
use Rattle.bip_defs.specs.Witness.{IsAugmentingPath}
use Rattle.bip_defs.proofs.Sets.{Drops, among_at, col_among, col_pair, drops_cols, drops_distinct, drops_gone, drops_kept, drops_length, drops_only, drops_rows, number_among, one_col, one_row, row_among, row_pair, taken}

-- Matchings with one pair more or less.

pub adds_pair : (a : Matrix) (r c : ℕ) (m : List Place) → IsMatching a m → IsEntry a r c → ¬ Among r (rows_of m) → ¬ Among c (cols_of m) → IsMatching a ((r, c) ∷ m)
adds_pair a r c m k e nr nc = record {
  entries = λ s d h. ⊎_elim (λ (g : (s, d) ≡ (r, c)). subst (λ (p : Place). IsEntry a p.0 p.1) (sym g) e) (λ g. k.entries s d g) h;
  rows_differ = (nr, k.rows_differ);
  cols_differ = (nc, k.cols_differ);
}

-- without a pair its row and its column have no mate
pub parted_row_free : (p : Place) (m rest : List Place) → IsParted p m rest → ¬ Among p.0 (rows_of rest)
parted_row_free p m rest parted h = let (c, mate) = row_pair p.0 rest h in ((parted (p.0, c)).0 mate).1 refl

pub parted_col_free : (p : Place) (m rest : List Place) → AreDistinct (cols_of m) → Among p m → IsParted p m rest → ¬ Among p.1 (cols_of rest)
parted_col_free p m rest differ pair parted h = let (r, mate) = col_pair p.1 rest h in let (old, ne) = (parted (r, p.1)).0 mate in ne (one_row m differ r p.0 p.1 old pair)

pub drops_pair : (a : Matrix) {p : Place} {m n : List Place} → Drops p m n → IsMatching a m → IsMatching a n
drops_pair a d k = record {
  entries = λ r c h. k.entries r c (drops_only d (r, c) h);
  rows_differ = drops_distinct (drops_rows d) k.rows_differ;
  cols_differ = drops_distinct (drops_cols d) k.cols_differ;
}

-- a row given from one column to another
pub drops_gives : (r c d : ℕ) (m n : List Place) → AreDistinct (rows_of m) → Drops (r, d) m n → Reassigns (r, c) m ((r, c) ∷ n)
drops_gives r c d m n a out p = (over, back)
  where
    over : (p ≡ (r, c)) ⊎ Among p n → (p ≡ (r, c)) ⊎ (Among p m × (p.0 ≢ r))
    over (inl e) = inl e
    over (inr h) = inr (drops_only out p h, λ (e : p.0 ≡ r). drops_gone (drops_rows out) a (subst (λ x. Among x (rows_of n)) e (row_among p.0 p.1 n h)))

    back : (p ≡ (r, c)) ⊎ (Among p m × (p.0 ≢ r)) → (p ≡ (r, c)) ⊎ Among p n
    back (inl e) = inl e
    back (inr h) = inr (⊎_elim (λ (e : p ≡ (r, d)). absurd (h.1 (ap (λ (q : Place). q.0) e))) (λ g. g) (drops_kept out p h.0))

-- One step along a path.

still_alternates : (p : Place) (old now path : List Place) → Reassigns p old now → ¬ Among p.0 (rows_of path) → Alternates old path → Alternates now path
still_alternates p old now [] g off h = h
still_alternates p old now (q ∷ []) g off h = λ k. let (c, in_now) = row_pair q.0 now k in ⊎_elim (λ (e : (q.0, c) ≡ p). off (inl (sym (ap (λ (z : Place). z.0) e)))) (λ f. h (row_among q.0 c old f.0)) ((g (q.0, c)).0 in_now)
still_alternates p old now (q ∷ s ∷ path) g off h = ((g (q.0, s.1)).1 (inr (h.0, λ (e : q.0 ≡ p.0). off (inl (sym e)))), still_alternates p old now (s ∷ path) g (λ k. off (inr k)) h.1)

-- once the first row of an augmenting path is given to the first column, the rest is augmenting
pub rest_augments : (p q : Place) (path old now : List Place) → AreDistinct (cols_of old) → IsAugmenting old (p ∷ q ∷ path) → Reassigns p old now → IsAugmenting now (q ∷ path)
rest_augments p q path old now differ aug g = record {
  begins = λ k. let (r, in_now) = col_pair q.1 now k in ⊎_elim (λ (e : (r, q.1) ≡ p). aug.begins (subst (λ x. Among x (cols_of old)) (ap (λ (z : Place). z.1) e) (col_among p.0 q.1 old aug.alternates.0))) (λ f. f.1 (one_row old differ r p.0 q.1 f.0 aug.alternates.0)) ((g (r, q.1)).0 in_now);
  alternates = still_alternates p old now (q ∷ path) g aug.rows_differ.0 aug.alternates.1;
  rows_differ = aug.rows_differ.1;
}

-- a row is given and the rest exchanged: the path is exchanged
pub exchange_rest : (p : Place) (path old now new : List Place) → ¬ Among p.0 (rows_of path) → Reassigns p old now → Exchanges path now new → Exchanges (p ∷ path) old new
exchange_rest p path old now new off g x q = (over, back)
  where
    over : Among q new → ((q ≡ p) ⊎ Among q path) ⊎ (Among q old × (¬ ((q.0 ≡ p.0) ⊎ Among q.0 (rows_of path))))
    over h = ⊎_elim (λ k. inl (inr k)) (λ k. ⊎_elim (λ (e : q ≡ p). inl (inl e)) (λ f. inr (f.0, λ (z : (q.0 ≡ p.0) ⊎ Among q.0 (rows_of path)). ⊎_elim f.1 k.1 z)) ((g q).0 k.0)) ((x q).0 h)

    back : ((q ≡ p) ⊎ Among q path) ⊎ (Among q old × (¬ ((q.0 ≡ p.0) ⊎ Among q.0 (rows_of path)))) → Among q new
    back (inl (inl e)) = (x q).1 (inr ((g q).1 (inl e), λ k. off (subst (λ (z : Place). Among z.0 (rows_of path)) e k)))
    back (inl (inr h)) = (x q).1 (inl h)
    back (inr f) = (x q).1 (inr ((g q).1 (inr (f.0, λ e. f.1 (inl e))), λ k. f.1 (inr k)))

-- one pair given is a path of one pair exchanged
pub exchange_one : (p : Place) (old new : List Place) → Reassigns p old new → Exchanges (p ∷ []) old new
exchange_one p old new g q = (over, back)
  where
    over : Among q new → ((q ≡ p) ⊎ ⊥) ⊎ (Among q old × (¬ ((q.0 ≡ p.0) ⊎ ⊥)))
    over h = ⊎_elim (λ (e : q ≡ p). inl (inl e)) (λ f. inr (f.0, λ (z : (q.0 ≡ p.0) ⊎ ⊥). ⊎_elim f.1 (λ k. k) z)) ((g q).0 h)

    back : ((q ≡ p) ⊎ ⊥) ⊎ (Among q old × (¬ ((q.0 ≡ p.0) ⊎ ⊥))) → Among q new
    back (inl (inl e)) = (g q).1 (inl e)
    back (inl (inr h)) = absurd h
    back (inr f) = (g q).1 (inr (f.0, λ e. f.1 (inl e)))

-- What an exchange keeps.

pub exchange_entries : (a : Matrix) (path old new : List Place) → Exchanges path old new → AreEntries a path → AreEntries a old → AreEntries a new
exchange_entries a path old new x on_path on_old r c h = ⊎_elim (λ k. on_path r c k) (λ f. on_old r c f.0) ((x (r, c)).0 h)

pub exchange_keeps_row : (path old new : List Place) (r : ℕ) → Exchanges path old new → Among r (rows_of old) → Among r (rows_of new)
exchange_keeps_row path old new r x h = ⊎_elim (λ k. let (c, in_path) = row_pair r path k in row_among r c new ((x (r, c)).1 (inl in_path))) (λ nk. let (c, in_old) = row_pair r old h in row_among r c new ((x (r, c)).1 (inr (in_old, nk)))) (number_among r (rows_of path))

-- the mate of a row on the path is a later column of it
next_col : (path m : List Place) (r c : ℕ) → AreDistinct (rows_of m) → Alternates m path → Among r (rows_of path) → Among (r, c) m → Among c (cols_of path)
next_col [] m r c a alt h k = elim h [ ]
next_col (p ∷ []) m r c a alt (inl e) k = absurd (alt (subst (λ x. Among x (rows_of m)) e (row_among r c m k)))
next_col (p ∷ []) m r c a alt (inr h) k = elim h [ ]
next_col (p ∷ q ∷ path) m r c a alt (inl e) k = inr (inl (one_col m a p.0 c q.1 (subst (λ x. Among (x, c) m) e k) alt.0))
next_col (p ∷ q ∷ path) m r c a alt (inr h) k = inr (next_col (q ∷ path) m r c a alt.1 h k)

pub exchange_keeps_col : (path old new : List Place) (c : ℕ) → AreDistinct (rows_of old) → IsAugmenting old path → Exchanges path old new → Among c (cols_of old) → Among c (cols_of new)
exchange_keeps_col path old new c differ aug x h = ⊎_elim on_path off (number_among mate.0 (rows_of path))
  where
    mate : (r : ℕ) × Among (r, c) old
    mate = col_pair c old h

    on_path : Among mate.0 (rows_of path) → Among c (cols_of new)
    on_path k = let (r, in_path) = col_pair c path (next_col path old mate.0 c differ aug.alternates k mate.1) in col_among r c new ((x (r, c)).1 (inl in_path))

    off : ¬ Among mate.0 (rows_of path) → Among c (cols_of new)
    off nk = col_among mate.0 c new ((x (mate.0, c)).1 (inr (mate.1, nk)))

-- The state of an exchange that has come to the place k of its path.

pub record Flipping (path old now : List Place) (k : ℕ) : Type 0 where
  pub left : IsAugmenting now (drop k path)
  pub whole : (new : List Place) → Exchanges (drop k path) now new → Exchanges path old new
  pub entries : (a : Matrix) → AreEntries a path → AreEntries a old → AreEntries a now

abbrev pub pair_at : List Place → ℕ → Place
pair_at path k = slice_index_or path k (0, 0)

pub flipping_start : (path old : List Place) → IsAugmenting old path → Flipping path old old 0
flipping_start path old aug = record { left = aug; whole = λ new x. x; entries = λ a p o. o }

-- the pair at the place, and what follows
left_at : (path : List Place) (k : ℕ) → k < length path → drop k path ≡ pair_at path k ∷ drop (suc k) path
left_at path k lt = drop-cons path k (0, 0) lt

-- the pair there and the next one
left_more : (path : List Place) (k : ℕ) → suc k < length path → drop k path ≡ pair_at path k ∷ pair_at path (suc k) ∷ drop (suc (suc k)) path
left_more path k lt = left_at path k (omega arith) ∙ ap (λ (z : List Place). pair_at path k ∷ z) (left_at path (suc k) lt)

-- the last pair
left_last : (path : List Place) (k : ℕ) → suc k ≡ length path → drop k path ≡ pair_at path k ∷ []
left_last path k e = left_at path k (omega arith) ∙ ap (λ (z : List Place). pair_at path k ∷ z) (drop_of_length-le path (let le : length path ≤ suc k = omega arith in le))

pub flipping_in_range : (path old now : List Place) (k : ℕ) → Flipping path old now k → k < length path
flipping_in_range path old now k f = by (dec_lt k (length path))
  where
    by : Dec (k < length path) → k < length path
    by (yes lt) = lt
    by (no nlt) = absurd (subst (BeginsUnmatched now) (drop_of_length-le path (let le : length path ≤ k = omega arith in le)) f.left.begins)

pub flipping_col_free : (path old now : List Place) (k : ℕ) → Flipping path old now k → ¬ Among (pair_at path k).1 (cols_of now)
flipping_col_free path old now k f = subst (BeginsUnmatched now) (left_at path k (flipping_in_range path old now k f)) f.left.begins

pub flipping_row_taken : (path old now : List Place) (k : ℕ) → Flipping path old now k → suc k < length path → Among (pair_at path k).0 (rows_of now)
flipping_row_taken path old now k f lt = row_among (pair_at path k).0 (pair_at path (suc k)).1 now (subst (Alternates now) (left_more path k lt) f.left.alternates).0

pub flipping_row_free : (path old now : List Place) (k : ℕ) → Flipping path old now k → suc k ≡ length path → ¬ Among (pair_at path k).0 (rows_of now)
flipping_row_free path old now k f e = subst (Alternates now) (left_last path k e) f.left.alternates

-- the row at the place goes to its column
pub flipping_step : (path old now next : List Place) (k : ℕ) → Flipping path old now k → suc k < length path → AreDistinct (cols_of now) → Reassigns (pair_at path k) now next → Flipping path old next (suc k)
flipping_step path old now next k f lt differ g = record {
  left = subst (IsAugmenting next) (sym (left_at path (suc k) lt)) (rest_augments (pair_at path k) (pair_at path (suc k)) (drop (suc (suc k)) path) now next differ here g);
  whole = λ new x. f.whole new (subst (λ z. Exchanges z now new) (sym (left_at path k (omega arith))) (exchange_rest (pair_at path k) (drop (suc k) path) now next new off g x));
  entries = λ a p o r c h. ⊎_elim (λ (e : (r, c) ≡ pair_at path k). p r c (subst (λ z. Among z path) (sym e) (among_at path k (0, 0) (omega arith)))) (λ i. f.entries a p o r c i.0) ((g (r, c)).0 h);
}
  where
    here : IsAugmenting now (pair_at path k ∷ pair_at path (suc k) ∷ drop (suc (suc k)) path)
    here = subst (IsAugmenting now) (left_more path k lt) f.left

    off : ¬ Among (pair_at path k).0 (rows_of (drop (suc k) path))
    off = (subst (λ z. AreDistinct (rows_of z)) (left_at path k (omega arith)) f.left.rows_differ).0

-- the last row becomes matched
pub flipping_end : (path old now new : List Place) (k : ℕ) → Flipping path old now k → suc k ≡ length path → Reassigns (pair_at path k) now new → Exchanges path old new
flipping_end path old now new k f e g = f.whole new (subst (λ z. Exchanges z now new) (sym (left_last path k e)) (exchange_one (pair_at path k) now new g))

-- An augmenting path shows a longer matching.

pub longer : (a : Matrix) (path m : List Place) → IsMatching a m → AreEntries a path → IsAugmenting m path → (n : List Place) × IsMatching a n × (length n ≡ suc (length m))
longer a [] m k e aug = absurd aug.begins
longer a (p ∷ []) m k e aug = (p ∷ m, adds_pair a p.0 p.1 m k (e p.0 p.1 (inl refl)) aug.alternates aug.begins, refl)
longer a (p ∷ q ∷ path) m k e aug =
    let (n, d) = taken (p.0, q.1) m aug.alternates.0 in
    let step : IsMatching a (p ∷ n) = adds_pair a p.0 p.1 n (drops_pair a d k) (e p.0 p.1 (inl refl)) (drops_gone (drops_rows d) k.rows_differ) (λ h. let (r, g) = col_pair p.1 n h in aug.begins (col_among r p.1 m (drops_only d (r, p.1) g))) in
    let (more, l, s) = longer a (q ∷ path) (p ∷ n) step (λ r c h. e r c (inr h)) (rest_augments p q path m (p ∷ n) k.cols_differ aug (drops_gives p.0 p.1 q.1 m n k.rows_differ d)) in
    (more, l, s ∙ ap suc (sym (drops_length d)))

pub augmenting_not_maximum : (a : Matrix) (m path : List Place) → AreEntries a path → IsAugmenting m path → ¬ IsMaximum a m
augmenting_not_maximum a m path e aug max = let (n, k, s) = longer a path m max.matching e aug in omega (arith, max.longest n k, s)

pub augmenting_path : (a : Matrix) (m path : List Place) → AreEntries a path → IsAugmenting m path → IsAugmentingPath a m path
augmenting_path a m path e aug = record { not_maximum = augmenting_not_maximum a m path e aug; augmenting = aug; entries = e }

-- The columns of a path.

-- a column after the first is the mate of a row before the last
pub later_col : (m : List Place) (p : Place) (path : List Place) (c : ℕ) → Alternates m (p ∷ path) → Among c (cols_of path) → (r : ℕ) × Among r (rows_of (p ∷ path)) × Among (r, c) m
later_col m p [] c alt h = elim h [ ]
later_col m p (q ∷ path) c alt (inl e) = (p.0, inl refl, subst (λ x. Among {X = Place} (p.0, x) m) (sym e) alt.0)
later_col m p (q ∷ path) c alt (inr h) = let (r, on, pair) = later_col m q path c alt.1 h in (r, inr on, pair)

later_differ : (m : List Place) (p : Place) (path : List Place) → AreDistinct (cols_of m) → Alternates m (p ∷ path) → AreDistinct (rows_of (p ∷ path)) → AreDistinct (cols_of path)
later_differ m p [] one alt differ = tt
later_differ m p (q ∷ path) one alt differ = (λ h. let (r, on, pair) = later_col m q path q.1 alt.1 h in differ.0 (subst (λ x. Among x (rows_of (q ∷ path))) (one_row m one r p.0 q.1 pair alt.0) on), later_differ m q path one alt.1 differ.1)

-- no column stands twice on an augmenting path
pub path_cols_differ : (m path : List Place) → AreDistinct (cols_of m) → IsAugmenting m path → AreDistinct (cols_of path)
path_cols_differ m [] one aug = tt
path_cols_differ m (p ∷ path) one aug = (λ h. let (r, on, pair) = later_col m p path p.1 aug.alternates h in aug.begins (col_among r p.1 m pair), later_differ m p path one aug.alternates aug.rows_differ)
