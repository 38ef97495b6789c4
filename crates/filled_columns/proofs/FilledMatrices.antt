-- Filled matrices, and the lists of their columns.
use Rattle.std.proofs.Common.{◌≡◌, ◌≢◌, ◌⊎◌, ◌↔◌, ◌∙◌, ℕ, zero, suc, ◌+◌, ◌-◌, ◌<◌, ◌≤◌, List, [], ◌∷◌, ◌++◌, length, slice_index, refl, sym, ap, subst, inl, inr, ⊎_elim, arith, eq-eqb, ne_eqb}
use Rattle.std.proofs.lemmas.List.{length-append}
use Rattle.bip_defs.specs.EditedMatrix.{with_number, with_place}
use Rattle.bip_defs.specs.Lists.{Among, AreDistinct, Lists}
use Rattle.bip_defs.specs.Matching.{cols_of}
use Rattle.bip_defs.specs.Matrix.{AreEntries, IsEntry, Matrix, Place, cols, column}
use Rattle.bip_defs.proofs.EditLemmas.{changed_cols, with_again, with_place_kept, with_place_new, with_place_over}
use Rattle.bip_defs.proofs.Sets.{among_either, among_left, among_right, col_among, col_pair, number_among, number_same}
use Rattle.column_lists.specs.Listed.{AreListed}
use Rattle.filled_columns.specs.Filled.{LeavesRoom, filled, rows_with, with_first}

-- The filled matrix.

pub filled_rows : (a : Matrix) (m : List Place) → (filled a m).rows ≡ a.rows
filled_rows a [] = refl
filled_rows a (p ∷ m) = filled_rows (with_place a p) m

pub filled_cols : (a : Matrix) (m : List Place) → cols (filled a m) ≡ cols a
filled_cols a [] = refl
filled_cols a (p ∷ m) = filled_cols (with_place a p) m ∙ changed_cols a p.1 (with_number p.0 (column a p.1))

pub within : (a : Matrix) (m : List Place) (c : ℕ) → c < cols (filled a m) → c < cols a
within a m c lt = subst (λ n. c < n) (filled_cols a m) lt

pub filled_over : (a : Matrix) (m : List Place) (r c : ℕ) → IsEntry (filled a m) r c → Among (r, c) m ⊎ IsEntry a r c
filled_over a [] r c e = inr e
filled_over a (p ∷ m) r c e = ⊎_elim (λ (h : Among (r, c) m). inl (inr h)) (λ k. ⊎_elim (λ (f : (r, c) ≡ p). inl (inl f)) (λ l. inr l) (with_place_over a p r c k)) (filled_over (with_place a p) m r c e)

pub filled_kept : (a : Matrix) (m : List Place) (r c : ℕ) → IsEntry a r c → IsEntry (filled a m) r c
filled_kept a [] r c e = e
filled_kept a (p ∷ m) r c e = filled_kept (with_place a p) m r c (with_place_kept a p r c e)

-- places within the matrix
abbrev pub AreInside : Matrix → List Place → Type 0
AreInside a m = (r c : ℕ) → Among (r, c) m → (r < a.rows) × (c < cols a)

pub filled_new : (a : Matrix) (m : List Place) → AreInside a m → (r c : ℕ) → Among (r, c) m → IsEntry (filled a m) r c
filled_new a [] inside r c h = elim h [ ]
filled_new a (p ∷ m) inside r c (inl e) =
    let (row, col) = inside p.0 p.1 (inl refl) in
    filled_kept (with_place a p) m r c (subst (λ (q : Place). IsEntry (with_place a p) q.0 q.1) (sym e) (with_place_new a p row col))
filled_new a (p ∷ m) inside r c (inr h) = filled_new (with_place a p) m (λ s d k. let (row, col) = inside s d (inr k) in (row, rw (changed_cols a p.1 (with_number p.0 (column a p.1))) col)) r c h

pub filled_entries : (a : Matrix) (m : List Place) → AreInside a m → (r c : ℕ) → IsEntry (filled a m) r c ↔ (Among (r, c) m ⊎ IsEntry a r c)
filled_entries a m inside r c = (filled_over a m r c, λ h. ⊎_elim (λ (k : Among (r, c) m). filled_new a m inside r c k) (λ e. filled_kept a m r c e) h)

-- entries that are there already change nothing, where the columns rise
pub filled_same : (a : Matrix) (m : List Place) → ((c : ℕ) → Lists (λ r. IsEntry a r c) (column a c)) → AreEntries a m → filled a m ≡ a
filled_same a [] rising entries = refl
filled_same a (p ∷ m) rising entries = ap (λ (b : Matrix). filled b m) (with_again a p (rising p.1) (entries p.0 p.1 (inl refl))) ∙ filled_same a m rising (λ r c h. entries r c (inr h))

-- The rows that are paired with a column.

rows_here : (p : Place) (m : List Place) (c : ℕ) → p.1 ≡ c → rows_with (p ∷ m) c ≡ p.0 ∷ rows_with m c
rows_here p m c e = rw (eq-eqb p.1 c e) refl

rows_there : (p : Place) (m : List Place) (c : ℕ) → p.1 ≢ c → rows_with (p ∷ m) c ≡ rows_with m c
rows_there p m c ne = rw (ne_eqb p.1 c ne) refl

pub rows_none : (m : List Place) (c : ℕ) → ¬ Among c (cols_of m) → rows_with m c ≡ []
rows_none [] c nh = refl
rows_none (p ∷ m) c nh = rows_there p m c (λ e. nh (inl (sym e))) ∙ rows_none m c (λ h. nh (inr h))

pub rows_one : (m : List Place) (r c : ℕ) → AreDistinct (cols_of m) → Among (r, c) m → rows_with m c ≡ r ∷ []
rows_one [] r c d h = elim h [ ]
rows_one (p ∷ m) r c d (inl e) =
    let col : p.1 ≡ c = sym (ap (λ (q : Place). q.1) e) in
    let row : p.0 ≡ r = sym (ap (λ (q : Place). q.0) e) in
    rows_here p m c col ∙ ap (λ (xs : List ℕ). p.0 ∷ xs) (rows_none m c (subst (λ z. ¬ Among z (cols_of m)) col d.0)) ∙ ap (λ (x : ℕ). x ∷ []) row
rows_one (p ∷ m) r c d (inr h) = rows_there p m c (λ e. d.0 (subst (λ z. Among z (cols_of m)) (sym e) (col_among r c m h))) ∙ rows_one m r c d.1 h

pub rows_over : (m : List Place) (r c : ℕ) → Among r (rows_with m c) → Among (r, c) m
rows_over [] r c h = elim h [ ]
rows_over (p ∷ m) r c h = by (number_same p.1 c) (rows_over m r c)
  where
    by : (p.1 ≡ c) ⊎ (p.1 ≢ c) → (Among r (rows_with m c) → Among (r, c) m) → Among (r, c) (p ∷ m)
    by (inl e) rest = ⊎_elim (λ (f : r ≡ p.0). inl (λ i. (f i, sym e i))) (λ g. inr (rest g)) (subst (Among r) (rows_here p m c e) h)
    by (inr ne) rest = inr (rest (subst (Among r) (rows_there p m c ne) h))

pub rows_back : (m : List Place) (r c : ℕ) → Among (r, c) m → Among r (rows_with m c)
rows_back [] r c h = elim h [ ]
rows_back (p ∷ m) r c (inl e) = subst (Among r) (sym (rows_here p m c (sym (ap (λ (q : Place). q.1) e)))) (inl (ap (λ (q : Place). q.0) e))
rows_back (p ∷ m) r c (inr h) = by (number_same p.1 c) (rows_back m r c h)
  where
    by : (p.1 ≡ c) ⊎ (p.1 ≢ c) → Among r (rows_with m c) → Among r (rows_with (p ∷ m) c)
    by (inl e) rest = subst (Among r) (sym (rows_here p m c e)) (inr rest)
    by (inr ne) rest = subst (Among r) (sym (rows_there p m c ne)) rest

pub rows_short : (m : List Place) (c : ℕ) → AreDistinct (cols_of m) → length (rows_with m c) ≤ 1
rows_short m c d = by (number_among c (cols_of m))
  where
    by : Among c (cols_of m) ⊎ (¬ Among c (cols_of m)) → length (rows_with m c) ≤ 1
    by (inl h) = let (r, k) = col_pair c m h in let e = ap (λ (z : List ℕ). length z) (rows_one m r c d k) in omega (arith, e)
    by (inr nh) = let e = ap (λ (z : List ℕ). length z) (rows_none m c nh) in omega (arith, e)

-- The lists of the columns.

pub filled_listed : (a : Matrix) (line : ℕ → List ℕ) (m : List Place) → AreListed a line → LeavesRoom a line → AreInside a m → AreDistinct (cols_of m) → AreListed (filled a m) (λ c. rows_with m c ++ line c)
filled_listed a line m k room inside d = record {
  few_rows = rw (filled_rows a m) k.few_rows;
  few_cols = rw (filled_cols a m) k.few_cols;
  few = λ c lt.
      let long = length-append (rows_with m c) (line c) in
      let one = rows_short m c d in
      let left = room c (within a m c lt) in
      omega (arith, long, one, left);
  entries = λ r c lt.
      let own = k.entries r c (within a m c lt) in (
        λ e. ⊎_elim (λ (h : Among (r, c) m). among_left r (rows_with m c) (line c) (rows_back m r c h)) (λ g. among_right r (rows_with m c) (line c) (own.0 g)) (filled_over a m r c e),
        λ h. ⊎_elim (λ (g : Among r (rows_with m c)). filled_new a m inside r c (rows_over m r c g)) (λ g. filled_kept a m r c (own.1 g)) (among_either r (rows_with m c) (line c) h),
      );
}

-- A list with a number before it.

pub first_length : (more x : ℕ) (xs : List ℕ) → more ≤ 1 → length (with_first more x xs) ≡ length xs + more
first_length zero x xs le = omega arith
first_length (suc zero) x xs le = omega arith
first_length (suc (suc more)) x xs le = absurd (omega arith)

pub first_at : (more x k : ℕ) (xs : List ℕ) → more ≤ 1 → k < more → slice_index (with_first more x xs) k ≡ x
first_at zero x k xs le lt = absurd (omega arith)
first_at (suc more) x zero xs le lt = refl
first_at (suc more) x (suc k) xs le lt = absurd (omega arith)

pub later_at : (more x k : ℕ) (xs : List ℕ) → more ≤ 1 → more ≤ k → slice_index (with_first more x xs) k ≡ slice_index xs (k - more)
later_at zero x k xs le lt = let e : k ≡ k - 0 = omega arith in ap (λ (i : ℕ). slice_index xs i) e
later_at (suc zero) x zero xs le lt = absurd (omega arith)
later_at (suc zero) x (suc k) xs le lt = let e : k ≡ suc k - 1 = omega arith in ap (λ (i : ℕ). slice_index xs i) e
later_at (suc (suc more)) x k xs le lt = absurd (omega arith)
