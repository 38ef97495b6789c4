-- Exchanges along the paths of a tree, step by step.
use Rattle.std.proofs.Common.{◌≡◌, ◌≢◌, ◌⊎◌, ◌↔◌, ◌∙◌, ℕ, suc, ◌<◌, ◌≤◌, List, length, refl, sym, ap, subst, inl, inr, ⊎_elim, arith}
use Rattle.bip_defs.specs.Lists.{Among, AreDistinct}
use Rattle.bip_defs.specs.Matching.{IsMatching, cols_of, rows_of}
use Rattle.bip_defs.specs.Matrix.{AreEntries, IsEntry, Matrix, Place}
use Rattle.bip_defs.specs.Paths.{Reassigns}
use Rattle.bip_defs.specs.Queues.{Queue, at, heads}
use Rattle.bip_defs.proofs.Queues.{head_at, one_place}
use Rattle.bip_defs.proofs.Sets.{col_among, col_pair, one_col, one_row, row_among, row_pair}
use Rattle.least_match.specs.Exchanges.{AgreeBeside, IsMatchedTree, Swaps}
use Rattle.least_match.specs.Trees.{IsLedTo, LeadsBack}

-- a row's pair parted
abbrev pub Unpairs : ℕ → List Place → List Place → Type 0
Unpairs row m n = (p : Place) → Among p n ↔ (Among p m × (p.0 ≢ row))

-- a pair parted and another one made
pub parts_then_gives : (row s c : ℕ) (m n o : List Place) → ¬ Among s (rows_of n) → Unpairs row m n → Reassigns (s, c) n o → Swaps (s, c) row m o
parts_then_gives row s c m n o free f g q = (over, back)
  where
    over : Among q o → (q ≡ (s, c)) ⊎ (Among q m × (q.0 ≢ row))
    over h = ⊎_elim (λ e. inl e) (λ k. inr ((f q).0 k.0)) ((g q).0 h)

    back : (q ≡ (s, c)) ⊎ (Among q m × (q.0 ≢ row)) → Among q o
    back (inl e) = (g q).1 (inl e)
    back (inr h) = let k = (f q).1 h in (g q).1 (inr (k, λ e. free (subst (λ x. Among x (rows_of n)) e (row_among q.0 q.1 n k))))

-- the parted row and column have no mate
pub parted_row : (row : ℕ) (m n : List Place) → Unpairs row m n → ¬ Among row (rows_of n)
parted_row row m n f h = let (c, p) = row_pair row n h in ((f (row, c)).0 p).1 refl

pub parted_col : (row c : ℕ) (m n : List Place) → AreDistinct (cols_of m) → Unpairs row m n → Among (row, c) m → ¬ Among c (cols_of n)
parted_col row c m n differ f p h = let (s, q) = col_pair c n h in let k = (f (s, c)).0 q in k.1 (one_row m differ s row c k.0 p)

pub parted_free : (row s : ℕ) (m n : List Place) → Unpairs row m n → ¬ Among s (rows_of m) → ¬ Among s (rows_of n)
parted_free row s m n f free h = let (c, p) = row_pair s n h in free (row_among s c m ((f (s, c)).0 p).0)

pub parted_free_col : (row c : ℕ) (m n : List Place) → Unpairs row m n → ¬ Among c (cols_of m) → ¬ Among c (cols_of n)
parted_free_col row c m n f free h = let (r, p) = col_pair c n h in free (col_among r c m ((f (r, c)).0 p).0)

-- Columns of the tree.

cols_apart : (q : Queue) (i k : ℕ) → AreDistinct (heads q) → k < i → i < length q → (at q k).0 ≢ (at q i).0
cols_apart q i k distinct lt within e = let z = one_place q k i distinct (omega arith) within e in omega (arith, z)

-- a pair of another column is of another row
row_apart : (m : List Place) (r s c d : ℕ) → AreDistinct (rows_of m) → Among (r, c) m → Among (s, d) m → c ≢ d → r ≢ s
row_apart m r s c d differ p q ne e = ne (one_col m differ s c d (subst (λ x. Among (x, c) m) e p) q)

-- The column at the place i has lost its row, and those before it still have theirs.

pub record HasHole (m0 m : List Place) (q : Queue) (i row : ℕ) : Type 0 where
  pub within : i < length q
  pub size : length m0 ≡ suc (length m)
  pub hole : ¬ Among (at q i).0 (cols_of m)
  pub kept : (k : ℕ) → k < i → (r : ℕ) → Among (r, (at q k).0) m0 → Among (r, (at q k).0) m
  pub beside : AgreeBeside q m0 m
  pub row_free : ¬ Among row (rows_of m)
  pub entries : (a : Matrix) → IsMatching a m0 → LeadsBack a m0 q → AreEntries a m

pub hole_start : (m0 m : List Place) (q : Queue) (i row : ℕ) → AreDistinct (rows_of m0) → AreDistinct (cols_of m0) → IsMatchedTree m0 q → i < length q → Among (row, (at q i).0) m0 → Unpairs row m0 m → length m0 ≡ suc (length m) → HasHole m0 m q i row
hole_start m0 m q i row rows cols matched_tree lt p f size = record {
  within = lt;
  size = size;
  hole = parted_col row (at q i).0 m0 m cols f p;
  kept = λ k l r g. (f (r, (at q k).0)).1 (g, row_apart m0 r row (at q k).0 (at q i).0 rows g p (cols_apart q i k matched_tree.distinct l lt));
  beside = λ r c off. (λ g. (f (r, c)).1 (g, row_apart m0 r row c (at q i).0 rows g p (λ e. off (subst (λ x. Among x (heads q)) (sym e) (head_at q i lt)))), λ g. ((f (r, c)).0 g).0);
  row_free = parted_row row m0 m f;
  entries = λ a k leads r c g. k.entries r c ((f (r, c)).0 g).0;
}

pub hole_step : (m0 m n : List Place) (q : Queue) (i p row s : ℕ) → AreDistinct (rows_of m) → AreDistinct (cols_of m) → IsMatchedTree m0 q → HasHole m0 m q i row → 0 < i → (at q i).1 ≡ p → Among (s, (at q p).0) m → Swaps (s, (at q i).0) s m n → length n ≡ length m → HasHole m0 n q p row
hole_step m0 m n q i p row s rows cols matched_tree h some e has g size = record {
  within = omega (arith, h.within, before);
  size = h.size ∙ ap suc (sym size);
  hole = λ k. let (t, at_y) = col_pair (at q p).0 n k in ⊎_elim (λ f. cols_apart q i p matched_tree.distinct before h.within (ap (λ (z : Place). z.1) f)) (λ f. f.1 (one_row m cols t s (at q p).0 f.0 has)) ((g (t, (at q p).0)).0 at_y);
  kept = λ k lt r at_k. let in_m = h.kept k (omega (arith, before)) r at_k in (g (r, (at q k).0)).1 (inr (in_m, row_apart m r s (at q k).0 (at q p).0 rows in_m has (cols_apart q p k matched_tree.distinct lt (omega (arith, h.within, before)))));
  beside = λ r c off. (λ k. let in_m = (h.beside r c off).0 k in (g (r, c)).1 (inr (in_m, row_apart m r s c (at q p).0 rows in_m has (λ f. off (subst (λ x. Among x (heads q)) (sym f) (head_at q p (omega (arith, h.within, before))))))), λ k. ⊎_elim (λ f. absurd (off (subst (λ x. Among x (heads q)) (sym (ap (λ (z : Place). z.1) f)) (head_at q i h.within)))) (λ f. (h.beside r c off).1 f.0) ((g (r, c)).0 k));
  row_free = λ k. let (c, at_row) = row_pair row n k in ⊎_elim (λ f. h.row_free (subst (λ x. Among x (rows_of m)) (sym (ap (λ (z : Place). z.0) f)) (row_among s (at q p).0 m has))) (λ f. h.row_free (row_among row c m f.0)) ((g (row, c)).0 at_row);
  entries = λ a k leads r c at_c. ⊎_elim (λ f. subst (λ (z : Place). IsEntry a z.0 z.1) (sym f) (leads i some h.within s (subst (λ x. Among (s, (at q x).0) m0) (sym e) own))) (λ f. h.entries a k leads r c f.0) ((g (r, c)).0 at_c);
}
  where
    before : p < i
    before = let lt = matched_tree.behind i some h.within in omega (arith, e)

    -- the row is that of the column's pair in m0
    own : Among (s, (at q p).0) m0
    own =
        let (t, k) = col_pair (at q p).0 m0 (matched_tree.matched (at q p).0 (head_at q p (omega (arith, h.within, before)))) in
        subst (λ x. Among (x, (at q p).0) m0) (one_row m cols t s (at q p).0 (h.kept p before t k) has) k

pub hole_matched : (m0 m : List Place) (q : Queue) (i p row : ℕ) → IsMatchedTree m0 q → HasHole m0 m q i row → 0 < i → (at q i).1 ≡ p → Among (at q p).0 (cols_of m)
hole_matched m0 m q i p row matched_tree h some e =
    let lt = matched_tree.behind i some h.within in
    let (t, k) = col_pair (at q p).0 m0 (matched_tree.matched (at q p).0 (head_at q p (omega (arith, h.within, e)))) in
    col_among t (at q p).0 m (h.kept p (omega (arith, e)) t k)

pub hole_matching : (m0 m : List Place) (q : Queue) (i row : ℕ) → AreDistinct (rows_of m) → AreDistinct (cols_of m) → HasHole m0 m q i row → (a : Matrix) → IsMatching a m0 → LeadsBack a m0 q → IsMatching a m
hole_matching m0 m q i row rows cols h a k leads = record { entries = h.entries a k leads; rows_differ = rows; cols_differ = cols }

-- The row f has no mate, and the columns up to the place i still have their rows.

pub record HasFree (m0 m : List Place) (q : Queue) (place free i f : ℕ) : Type 0 where
  pub within : i < length q
  pub size : length m ≡ length m0
  pub row_free : ¬ Among f (rows_of m)
  pub kept : (k : ℕ) → k ≤ i → (r : ℕ) → Among (r, (at q k).0) m0 → Among (r, (at q k).0) m
  pub beside : AgreeBeside q m0 m
  pub entries : (a : Matrix) → IsMatching a m0 → IsLedTo a m0 q → IsEntry a free (at q place).0 → AreEntries a m × IsEntry a f (at q i).0

pub free_start : (m0 : List Place) (q : Queue) (i f : ℕ) → i < length q → ¬ Among f (rows_of m0) → HasFree m0 m0 q i f i f
free_start m0 q i f lt free = record {
  within = lt;
  size = refl;
  row_free = free;
  kept = λ k le r g. g;
  beside = λ r c off. (λ g. g, λ g. g);
  entries = λ a k led e. (k.entries, e);
}

-- what a column of the tree gets, with its own row free then
pub record HasGiven (m0 n : List Place) (q : Queue) (place free i s : ℕ) : Type 0 where
  pub size : length n ≡ length m0
  pub row_free : ¬ Among s (rows_of n)
  pub own : Among (s, (at q i).0) m0
  pub kept : (k : ℕ) → k < i → (r : ℕ) → Among (r, (at q k).0) m0 → Among (r, (at q k).0) n
  pub beside : AgreeBeside q m0 n
  pub entries : (a : Matrix) → IsMatching a m0 → IsLedTo a m0 q → IsEntry a free (at q place).0 → AreEntries a n

pub free_gives : (m0 m n : List Place) (q : Queue) (place free i f s : ℕ) → AreDistinct (rows_of m) → AreDistinct (cols_of m) → IsMatchedTree m0 q → HasFree m0 m q place free i f → Among (s, (at q i).0) m → Swaps (f, (at q i).0) s m n → length n ≡ length m → HasGiven m0 n q place free i s
free_gives m0 m n q place free i f s rows cols matched_tree h has g size = record {
  size = size ∙ h.size;
  row_free = λ k. let (c, at_s) = row_pair s n k in ⊎_elim (λ e. h.row_free (subst (λ x. Among x (rows_of m)) (ap (λ (z : Place). z.0) e) (row_among s (at q i).0 m has))) (λ e. e.1 refl) ((g (s, c)).0 at_s);
  own = let (t, k) = col_pair (at q i).0 m0 (matched_tree.matched (at q i).0 (head_at q i h.within)) in subst (λ x. Among (x, (at q i).0) m0) (one_row m cols t s (at q i).0 (h.kept i (omega arith) t k) has) k;
  kept = λ k lt r at_k. let in_m = h.kept k (omega arith) r at_k in (g (r, (at q k).0)).1 (inr (in_m, row_apart m r s (at q k).0 (at q i).0 rows in_m has (cols_apart q i k matched_tree.distinct lt h.within)));
  beside = λ r c off. (λ k. let in_m = (h.beside r c off).0 k in (g (r, c)).1 (inr (in_m, row_apart m r s c (at q i).0 rows in_m has (λ e. off (subst (λ x. Among x (heads q)) (sym e) (head_at q i h.within))))), λ k. ⊎_elim (λ e. absurd (off (subst (λ x. Among x (heads q)) (sym (ap (λ (z : Place). z.1) e)) (head_at q i h.within)))) (λ e. (h.beside r c off).1 e.0) ((g (r, c)).0 k));
  entries = λ a k led e r c at_c. let old = h.entries a k led e in ⊎_elim (λ z. subst (λ (y : Place). IsEntry a y.0 y.1) (sym z) old.1) (λ z. old.0 r c z.0) ((g (r, c)).0 at_c);
}

pub free_step : (m0 n : List Place) (q : Queue) (place free i p s : ℕ) → IsMatchedTree m0 q → HasGiven m0 n q place free i s → i < length q → 0 < i → (at q i).1 ≡ p → HasFree m0 n q place free p s
free_step m0 n q place free i p s matched_tree h within some e =
    let lt = matched_tree.behind i some within in
    record {
      within = omega (arith, e);
      size = h.size;
      row_free = h.row_free;
      kept = λ k le r at_k. h.kept k (omega (arith, e)) r at_k;
      beside = h.beside;
      entries = λ a k led f. (h.entries a k led f, subst (λ x. IsEntry a s (at q x).0) e (led i some within s h.own));
    }

pub free_matched : (m0 m : List Place) (q : Queue) (place free i f : ℕ) → IsMatchedTree m0 q → HasFree m0 m q place free i f → Among (at q i).0 (cols_of m)
free_matched m0 m q place free i f matched_tree h = let (t, k) = col_pair (at q i).0 m0 (matched_tree.matched (at q i).0 (head_at q i h.within)) in col_among t (at q i).0 m (h.kept i (omega arith) t k)

pub given_matching : (m0 n : List Place) (q : Queue) (place free i s : ℕ) → AreDistinct (rows_of n) → AreDistinct (cols_of n) → HasGiven m0 n q place free i s → (a : Matrix) → IsMatching a m0 → IsLedTo a m0 q → IsEntry a free (at q place).0 → IsMatching a n
given_matching m0 n q place free i s rows cols h a k led e = record { entries = h.entries a k led e; rows_differ = rows; cols_differ = cols }
