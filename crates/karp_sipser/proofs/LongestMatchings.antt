-- A row or column with one unmatched neighbour is matched with it in some longest matching of the rest.
use Rattle.std.proofs.Common.{◌≡◌, ℕ, ◌≤◌, List, ◌∷◌, length, sym, subst, inl, inr, ⊎_elim, arith}
use Rattle.bip_defs.specs.Lists.{Among}
use Rattle.bip_defs.specs.Matching.{cols_of, rows_of}
use Rattle.bip_defs.specs.Matrix.{Matrix, Place}
use Rattle.bip_defs.specs.Start.{IsFree, IsOnly}
use Rattle.bip_defs.proofs.Exchange.{adds_pair, drops_pair}
use Rattle.bip_defs.proofs.Sets.{Drops, col_among, col_pair, drops_cols, drops_gone, drops_kept, drops_length, drops_only, drops_rows, number_among, one_col, one_row, row_among, row_pair, taken}
use Rattle.karp_sipser.specs.Extensions.{Extends}

abbrev pub IsAsLong : Matrix → List Place → List Place → ℕ → ℕ → Type 0
IsAsLong a pairs m r c = (n : List Place) × Extends a ((r, c) ∷ pairs) n × (length m ≤ length n)

-- it has the pair already
has_it : (a : Matrix) (pairs m : List Place) (r c : ℕ) → Extends a pairs m → Among (r, c) m → IsAsLong a pairs m r c
has_it a pairs m r c e h = (m, record { matching = e.matching; has = λ p k. ⊎_elim (λ (z : p ≡ (r, c)). subst (λ q. Among q m) (sym z) h) (λ k. e.has p k) k }, omega arith)

-- both are unmatched
adds_it : (a : Matrix) (pairs m : List Place) (r c : ℕ) → IsFree a pairs r c → Extends a pairs m → ¬ Among r (rows_of m) → ¬ Among c (cols_of m) → IsAsLong a pairs m r c
adds_it a pairs m r c f e no_row no_col = ((r, c) ∷ m, record { matching = adds_pair a r c m e.matching f.0 no_row no_col; has = λ p k. ⊎_elim (λ z. inl z) (λ k. inr (e.has p k)) k }, omega arith)

-- another pair of one of the two makes room for it
takes_it : (a : Matrix) (pairs m rest : List Place) (r c : ℕ) (old : Place) → IsFree a pairs r c → Extends a pairs m → Drops old m rest → ¬ Among old pairs → ¬ Among r (rows_of rest) → ¬ Among c (cols_of rest) → IsAsLong a pairs m r c
takes_it a pairs m rest r c old f e out new no_row no_col = (
  (r, c) ∷ rest,
  record {
    matching = adds_pair a r c rest (drops_pair a out e.matching) f.0 no_row no_col;
    has = λ p k. ⊎_elim (λ z. inl z) (λ k. inr (⊎_elim (λ (z : p ≡ old). absurd (new (subst (λ q. Among q pairs) z k))) (λ l. l) (drops_kept out p (e.has p k)))) k;
  },
  omega (arith, drops_length out),
)

pub col_loses_nothing : (a : Matrix) (pairs m : List Place) (r c : ℕ) → IsOnly (λ s. IsFree a pairs s c) r → Extends a pairs m → IsAsLong a pairs m r c
col_loses_nothing a pairs m r c only e = ⊎_elim matched unmatched (number_among c (cols_of m))
  where
    matched : Among c (cols_of m) → IsAsLong a pairs m r c
    matched h =
        let (s, p) = col_pair c m h in
        let free : ¬ Among s (rows_of pairs) = (λ k. let (d, q) = row_pair s pairs k in only.0.2 (subst (λ x. Among x (cols_of pairs)) (one_col m e.matching.rows_differ s d c (e.has (s, d) q) p) (col_among s d pairs q))) in
        has_it a pairs m r c e (subst (λ x. Among {X = Place} (x, c) m) (only.1 s (e.matching.entries s c p, free, only.0.2)) p)

    unmatched : ¬ Among c (cols_of m) → IsAsLong a pairs m r c
    unmatched no_col = ⊎_elim (λ h. other (row_pair r m h)) (λ no_row. adds_it a pairs m r c only.0 e no_row no_col) (number_among r (rows_of m))
      where
        other : (d : ℕ) × Among (r, d) m → IsAsLong a pairs m r c
        other (d, p) =
            let (rest, out) = taken (r, d) m p in
            takes_it a pairs m rest r c (r, d) only.0 e out (λ k. only.0.1 (row_among r d pairs k)) (drops_gone (drops_rows out) e.matching.rows_differ) (λ h. let (s, q) = col_pair c rest h in no_col (col_among s c m (drops_only out (s, c) q)))

pub row_loses_nothing : (a : Matrix) (pairs m : List Place) (r c : ℕ) → IsOnly (λ d. IsFree a pairs r d) c → Extends a pairs m → IsAsLong a pairs m r c
row_loses_nothing a pairs m r c only e = ⊎_elim matched unmatched (number_among r (rows_of m))
  where
    matched : Among r (rows_of m) → IsAsLong a pairs m r c
    matched h =
        let (d, p) = row_pair r m h in
        let free : ¬ Among d (cols_of pairs) = (λ k. let (s, q) = col_pair d pairs k in only.0.1 (subst (λ x. Among x (rows_of pairs)) (one_row m e.matching.cols_differ s r d (e.has (s, d) q) p) (row_among s d pairs q))) in
        has_it a pairs m r c e (subst (λ x. Among {X = Place} (r, x) m) (only.1 d (e.matching.entries r d p, only.0.1, free)) p)

    unmatched : ¬ Among r (rows_of m) → IsAsLong a pairs m r c
    unmatched no_row = ⊎_elim (λ h. other (col_pair c m h)) (λ no_col. adds_it a pairs m r c only.0 e no_row no_col) (number_among c (cols_of m))
      where
        other : (s : ℕ) × Among (s, c) m → IsAsLong a pairs m r c
        other (s, p) =
            let (rest, out) = taken (s, c) m p in
            takes_it a pairs m rest r c (s, c) only.0 e out (λ k. only.0.2 (col_among s c pairs k)) (λ h. let (d, q) = row_pair r rest h in no_row (row_among r d m (drops_only out (r, d) q))) (drops_gone (drops_cols out) e.matching.cols_differ)
