-- What taking a pair leaves free, and what is free in the transpose.
use Rattle.std.proofs.Common.{◌≡◌, ◌≢◌, ◌⊎◌, ◌↔◌, ℕ, List, refl, ap, sym, subst, inl, inr, ⊎_elim}
use Rattle.bip_defs.proofs.Sets.{col_among, col_pair, row_among, row_pair}
use Rattle.bip_defs.proofs.Transposed.{transpose_is, turned_among, turned_back, turned_cols, turned_rows}
use Rattle.bip_defs.specs.Lists.{Among}
use Rattle.bip_defs.specs.Matching.{cols_of, rows_of, transposed_places}
use Rattle.bip_defs.specs.Matrix.{Matrix, Place, transpose}
use Rattle.bip_defs.specs.Start.{ColOfOne, IsFree, IsLeast, RowOfOne}

-- new has the pairs of old and this one
abbrev pub Adds : Place → List Place → List Place → Type 0
Adds p old new = (q : Place) → Among q new ↔ ((q ≡ p) ⊎ Among q old)

pub rows_kept : (p : Place) (old new : List Place) (r : ℕ) → Adds p old new → Among r (rows_of old) → Among r (rows_of new)
rows_kept p old new r adds h = let (c, k) = row_pair r old h in row_among r c new ((adds (r, c)).1 (inr k))

pub cols_kept : (p : Place) (old new : List Place) (c : ℕ) → Adds p old new → Among c (cols_of old) → Among c (cols_of new)
cols_kept p old new c adds h = let (r, k) = col_pair c old h in col_among r c new ((adds (r, c)).1 (inr k))

rows_only : (p : Place) (old new : List Place) (r : ℕ) → Adds p old new → Among r (rows_of new) → (r ≡ p.0) ⊎ Among r (rows_of old)
rows_only p old new r adds h = let (c, k) = row_pair r new h in ⊎_elim (λ (e : (r, c) ≡ p). inl (ap (λ (q : Place). q.0) e)) (λ (g : Among (r, c) old). inr (row_among r c old g)) ((adds (r, c)).0 k)

cols_only : (p : Place) (old new : List Place) (c : ℕ) → Adds p old new → Among c (cols_of new) → (c ≡ p.1) ⊎ Among c (cols_of old)
cols_only p old new c adds h = let (r, k) = col_pair c new h in ⊎_elim (λ (e : (r, c) ≡ p). inl (ap (λ (q : Place). q.1) e)) (λ (g : Among (r, c) old). inr (col_among r c old g)) ((adds (r, c)).0 k)

-- what is free after a pair was taken was free, and shares no row or column with the pair
pub free_before : (a : Matrix) (p : Place) (old new : List Place) (r c : ℕ) → Adds p old new → IsFree a new r c → IsFree a old r c × (r ≢ p.0) × (c ≢ p.1)
free_before a p old new r c adds f = (
  (f.0, (λ h. f.1 (rows_kept p old new r adds h)), (λ h. f.2 (cols_kept p old new c adds h))),
  (λ e. f.1 (subst (λ z. Among z (rows_of new)) (sym e) (row_among p.0 p.1 new ((adds p).1 (inl refl))))),
  (λ e. f.2 (subst (λ z. Among z (cols_of new)) (sym e) (col_among p.0 p.1 new ((adds p).1 (inl refl))))),
)

pub free_after : (a : Matrix) (p : Place) (old new : List Place) (r c : ℕ) → Adds p old new → IsFree a old r c → r ≢ p.0 → c ≢ p.1 → IsFree a new r c
free_after a p old new r c adds f ner nec =
    (f.0, (λ h. ⊎_elim ner f.1 (rows_only p old new r adds h)), (λ h. ⊎_elim nec f.2 (cols_only p old new c adds h)))

-- The rows of a matrix are the columns of its transpose.

pub free_turned : (a : Matrix) (m : List Place) (r c : ℕ) → IsFree a m r c → IsFree (transpose a) (transposed_places m) c r
free_turned a m r c f = ((transpose_is a).over r c f.0, (λ h. f.2 (subst (λ z. Among c z) (turned_rows m) h)), (λ h. f.1 (subst (λ z. Among r z) (turned_cols m) h)))

pub turned_free : (a : Matrix) (m : List Place) (r c : ℕ) → IsFree (transpose a) (transposed_places m) c r → IsFree a m r c
turned_free a m r c f = ((transpose_is a).back r c f.0, (λ h. f.2 (subst (λ z. Among r z) (sym (turned_cols m)) h)), (λ h. f.1 (subst (λ z. Among c z) (sym (turned_rows m)) h)))

pub adds_turned : (r c : ℕ) (old new : List Place) → Adds (r, c) old new → Adds (c, r) (transposed_places old) (transposed_places new)
adds_turned r c old new adds q = (
  (λ h. ⊎_elim (λ (e : (q.1, q.0) ≡ (r, c)). inl (ap (λ (p : Place). (p.1, p.0)) e)) (λ k. inr (turned_among q.1 q.0 old k)) ((adds (q.1, q.0)).0 (turned_back q.1 q.0 new h))),
  (λ h. ⊎_elim (λ (e : q ≡ (c, r)). turned_among q.1 q.0 new ((adds (q.1, q.0)).1 (inl (ap (λ (p : Place). (p.1, p.0)) e)))) (λ k. turned_among q.1 q.0 new ((adds (q.1, q.0)).1 (inr (turned_back q.1 q.0 old k)))) h),
)

row_turned : (a : Matrix) (m : List Place) (r : ℕ) → RowOfOne a m r → ColOfOne (transpose a) (transposed_places m) r
row_turned a m r o = (o.0, (free_turned a m r o.0 o.1.0, λ y f. o.1.1 y (turned_free a m r y f)))

turned_row : (a : Matrix) (m : List Place) (r : ℕ) → ColOfOne (transpose a) (transposed_places m) r → RowOfOne a m r
turned_row a m r o = (o.0, (turned_free a m r o.0 o.1.0, λ y f. o.1.1 y (free_turned a m r y f)))

pub no_row_turned : (a : Matrix) (m : List Place) → ((r : ℕ) → ¬ ColOfOne (transpose a) (transposed_places m) r) → (r : ℕ) → ¬ RowOfOne a m r
no_row_turned a m none r o = none r (row_turned a m r o)

pub least_row_turned : (a : Matrix) (m : List Place) (r : ℕ) → IsLeast (ColOfOne (transpose a) (transposed_places m)) r → IsLeast (RowOfOne a m) r
least_row_turned a m r l = (turned_row a m r l.0, λ y o. l.1 y (row_turned a m y o))
