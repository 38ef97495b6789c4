-- What is left where a row is given to a column that has no mate.
use Rattle.std.proofs.Common.{◌≡◌, ◌≢◌, ◌⊎◌, ◌↔◌, ◌∙◌, ◌^◌, ℕ, suc, ◌+◌, ◌<◌, List, length, get_or, set, sym, ap, subst, inl, inr, ⊎_elim, arith, length-set, get_or-set_same, get_or-set_other}
use Rattle.bip_defs.specs.Lists.{Among}
use Rattle.bip_defs.specs.Matching.{rows_of}
use Rattle.bip_defs.specs.Matrix.{Place}
use Rattle.bip_defs.specs.Paths.{Reassigns}
use Rattle.bip_defs.proofs.Sets.{number_same, row_among}
use Rattle.bip_graph.specs.Matching.{AreMates, LeadsBack, none, pairs_of}
use Rattle.bip_graph.proofs.Arrays.{one_more_from, one_less_from, few_pairs, read, stored}
use Rattle.bip_graph.proofs.MateArrays.{not_none}

-- new is old with the row at the column, and at no other
pub record IsHanded (old new : List ℕ) (r c : ℕ) : Type 0 where
  pub same_length : length new ≡ length old
  pub within : c < length old
  pub free : get_or old c 0 ≡ none
  pub at : get_or new c 0 ≡ r
  pub gone : (i : ℕ) → i < length old → i ≢ c → get_or old i 0 ≡ r → get_or new i 0 ≡ none
  pub kept : (i : ℕ) → i < length old → i ≢ c → get_or old i 0 ≢ r → get_or new i 0 ≡ get_or old i 0

by_col : (old new ys : List ℕ) (n r c : ℕ) → AreMates old ys n → IsHanded old new r c → r < length ys → LeadsBack new (set ys r c)
by_col old new ys n r c m h lt i within some = ⊎_elim here there (number_same i c)
  where
    i_old : i < length old
    i_old = omega (arith, h.same_length)

    here : i ≡ c → (get_or new i 0 < length (set ys r c)) × (get_or (set ys r c) (get_or new i 0) 0 ≡ i)
    here e =
        let at : get_or new i 0 ≡ r = ap (λ x. get_or new x 0) e ∙ h.at in
        subst (λ x. (x < length (set ys r c)) × (get_or (set ys r c) x 0 ≡ i)) (sym at) (omega (arith, length-set ys r c), get_or-set_same ys r c 0 lt ∙ sym e)

    there : i ≢ c → (get_or new i 0 < length (set ys r c)) × (get_or (set ys r c) (get_or new i 0) 0 ≡ i)
    there ne = ⊎_elim (λ e. absurd (some (h.gone i i_old ne e))) (λ other. kept other) (number_same (get_or old i 0) r)
      where
        kept : get_or old i 0 ≢ r → (get_or new i 0 < length (set ys r c)) × (get_or (set ys r c) (get_or new i 0) 0 ≡ i)
        kept other =
            let same = h.kept i i_old ne other in
            let b = m.by_col i i_old (λ e. some (same ∙ e)) in
            subst (λ x. (x < length (set ys r c)) × (get_or (set ys r c) x 0 ≡ i)) (sym same) (let lt = b.0 in omega (arith, length-set ys r c), get_or-set_other ys r (get_or old i 0) c 0 other ∙ b.1)

by_row : (old new ys : List ℕ) (n r c : ℕ) → AreMates old ys n → IsHanded old new r c → r < length ys → LeadsBack (set ys r c) new
by_row old new ys n r c m h lt j within some = ⊎_elim here there (number_same j r)
  where
    here : j ≡ r → (get_or (set ys r c) j 0 < length new) × (get_or new (get_or (set ys r c) j 0) 0 ≡ j)
    here e =
        let at : get_or (set ys r c) j 0 ≡ c = ap (λ x. get_or (set ys r c) x 0) e ∙ get_or-set_same ys r c 0 lt in
        subst (λ x. (x < length new) × (get_or new x 0 ≡ j)) (sym at) (omega (arith, h.same_length, h.within), h.at ∙ sym e)

    there : j ≢ r → (get_or (set ys r c) j 0 < length new) × (get_or new (get_or (set ys r c) j 0) 0 ≡ j)
    there ne =
        let same = get_or-set_other ys r j c 0 ne in
        let j_in : j < length ys = omega (arith, length-set ys r c) in
        let b = m.by_row j j_in (λ e. some (same ∙ e)) in
        let apart : get_or ys j 0 ≢ c = λ e. not_none j ys j_in m.few_rows (sym b.1 ∙ ap (λ x. get_or old x 0) e ∙ h.free) in
        subst (λ x. (x < length new) × (get_or new x 0 ≡ j)) (sym same) (let lt = b.0 in omega (arith, h.same_length), h.kept (get_or ys j 0) b.0 apart (λ e. ne (sym b.1 ∙ e)) ∙ b.1)

pub handed_mates : (old new ys : List ℕ) (n m r c : ℕ) → AreMates old ys n → IsHanded old new r c → r < length ys → m ≡ length (pairs_of new) → AreMates new (set ys r c) m
handed_mates old new ys n m r c mates h lt count = record {
  few_cols = let few = mates.few_cols in omega (arith, h.same_length);
  few_rows = let few = mates.few_rows in omega (arith, length-set ys r c);
  by_col = by_col old new ys n r c mates h lt;
  by_row = by_row old new ys n r c mates h lt;
  count = count;
}

pub handed_gives : (old new ys : List ℕ) (n r c : ℕ) → AreMates old ys n → IsHanded old new r c → r < length ys → Reassigns (r, c) (pairs_of old) (pairs_of new)
handed_gives old new ys n r c m h lt q = (over, return)
  where
    over : Among q (pairs_of new) → (q ≡ (r, c)) ⊎ (Among q (pairs_of old) × (q.0 ≢ r))
    over k = by (read new q.0 q.1 k) (number_same q.1 c) (number_same (get_or old q.1 0) r)
      where
        by : (q.1 < length new) × (get_or new q.1 0 ≡ q.0) × (q.0 ≢ none) → (q.1 ≡ c) ⊎ (q.1 ≢ c) → (get_or old q.1 0 ≡ r) ⊎ (get_or old q.1 0 ≢ r) → (q ≡ (r, c)) ⊎ (Among q (pairs_of old) × (q.0 ≢ r))
        by is (inl e) g = let row : q.0 ≡ r = sym is.1 ∙ ap (λ x. get_or new x 0) e ∙ h.at in inl (λ i. (row i, e i))
        by is (inr ne) (inl e) = let in_old : q.1 < length old = (let lt = is.0 in omega (arith, h.same_length)) in absurd (is.2 (sym is.1 ∙ h.gone q.1 in_old ne e))
        by is (inr ne) (inr other) =
            let in_old : q.1 < length old = (let lt = is.0 in omega (arith, h.same_length)) in
            let same = sym (h.kept q.1 in_old ne other) ∙ is.1 in
            inr (stored old q.0 q.1 in_old same is.2, λ e. other (same ∙ e))

    return : (q ≡ (r, c)) ⊎ (Among q (pairs_of old) × (q.0 ≢ r)) → Among q (pairs_of new)
    return (inl e) = subst (λ (p : Place). Among p (pairs_of new)) (sym e) (stored new r c (omega (arith, h.same_length, h.within)) h.at (not_none r ys lt m.few_rows))
    return (inr k) =
        let is = read old q.0 q.1 k.0 in
        let apart : q.1 ≢ c = λ e. is.2 (sym is.1 ∙ ap (λ x. get_or old x 0) e ∙ h.free) in
        stored new q.0 q.1 (let lt = is.0 in omega (arith, h.same_length)) (h.kept q.1 is.0 apart (λ e. k.1 (sym is.1 ∙ e)) ∙ is.1) is.2

-- where the row had no mate, all pairs stay
pub gives_adds : (r c : ℕ) (old new : List Place) → Reassigns (r, c) old new → ¬ Among r (rows_of old) → (p : Place) → Among p new ↔ ((p ≡ (r, c)) ⊎ Among p old)
gives_adds r c old new g nh p = (λ h. ⊎_elim (λ e. inl e) (λ k. inr k.0) ((g p).0 h), λ h. (g p).1 (⊎_elim (λ e. inl e) (λ k. inr (k, λ (e : p.0 ≡ r). nh (subst (λ x. Among x (rows_of old)) e (row_among p.0 p.1 old k)))) h))

-- A row without a mate, and a column without one.

pub record AreFree (xs ys : List ℕ) (n r c : ℕ) : Type 0 where
  pub mates : AreMates xs ys n
  pub row_in : r < length ys
  pub col_in : c < length xs
  pub row_free : get_or ys r 0 ≡ none
  pub col_free : get_or xs c 0 ≡ none

pub paired : {xs ys : List ℕ} {n r c : ℕ} → AreFree xs ys n r c → IsHanded xs (set xs c r) r c
paired {xs = xs} {ys = ys} {n = n} {r = r} {c = c} f = record {
  same_length = length-set xs c r;
  within = f.col_in;
  free = f.col_free;
  at = get_or-set_same xs c r 0 f.col_in;
  gone = λ i lt ne e. absurd (not_none i xs lt f.mates.few_cols (sym (f.mates.by_col i lt (λ z. not_none r ys f.row_in f.mates.few_rows (sym e ∙ z))).1 ∙ ap (λ x. get_or ys x 0) e ∙ f.row_free));
  kept = λ i lt ne other. get_or-set_other xs c i r 0 ne;
}

pub paired_size : {xs ys : List ℕ} {n r c : ℕ} → AreFree xs ys n r c → length (pairs_of (set xs c r)) ≡ suc (length (pairs_of xs))
paired_size {xs = xs} {ys = ys} {n = n} {r = r} {c = c} f = one_more_from 0 xs c r f.col_in f.col_free (not_none r ys f.row_in f.mates.few_rows)

pub paired_mates : {xs ys : List ℕ} {n r c : ℕ} → AreFree xs ys n r c → AreMates (set xs c r) (set ys r c) (n + 1)
paired_mates {xs = xs} {ys = ys} {n = n} {r = r} {c = c} f = handed_mates xs (set xs c r) ys n (n + 1) r c f.mates (paired f) f.row_in (omega (arith, f.mates.count, paired_size f))

-- there is room for one pair more
pub room : {xs ys : List ℕ} {n r c : ℕ} → AreFree xs ys n r c → n + 1 < 2 ^ 32
room {xs = xs} {ys = ys} {n = n} {r = r} {c = c} f = let few = f.mates.few_cols in omega (arith, f.mates.count, paired_size f, few_pairs 0 (set xs c r), length-set xs c r)

-- A row whose mate is the column d, and a column without a mate.

pub record IsTaken (xs ys : List ℕ) (n r c d : ℕ) : Type 0 where
  pub mates : AreMates xs ys n
  pub row_in : r < length ys
  pub col_in : c < length xs
  pub mate : get_or ys r 0 ≡ d
  pub mate_in : d < length xs
  pub mate_has : get_or xs d 0 ≡ r
  pub col_free : get_or xs c 0 ≡ none

mate_apart : (xs ys : List ℕ) (n r c d : ℕ) → IsTaken xs ys n r c d → d ≢ c
mate_apart xs ys n r c d t e = not_none r ys t.row_in t.mates.few_rows (sym t.mate_has ∙ ap (λ x. get_or xs x 0) e ∙ t.col_free)

pub given : {xs ys : List ℕ} {n r c d : ℕ} → IsTaken xs ys n r c d → IsHanded xs (set (set xs d none) c r) r c
given {xs = xs} {ys = ys} {n = n} {r = r} {c = c} {d = d} t = record {
  same_length = length-set (set xs d none) c r ∙ length-set xs d none;
  within = t.col_in;
  free = t.col_free;
  at = get_or-set_same (set xs d none) c r 0 (omega (arith, length-set xs d none, t.col_in));
  gone = λ i lt ne e.
      let is : i ≡ d = sym (t.mates.by_col i lt (λ z. not_none r ys t.row_in t.mates.few_rows (sym e ∙ z))).1 ∙ ap (λ x. get_or ys x 0) e ∙ t.mate in
      get_or-set_other (set xs d none) c i r 0 ne ∙ ap (λ x. get_or (set xs d none) x 0) is ∙ get_or-set_same xs d none 0 t.mate_in;
  kept = λ i lt ne other. get_or-set_other (set xs d none) c i r 0 ne ∙ get_or-set_other xs d i none 0 (λ e. other (ap (λ x. get_or xs x 0) e ∙ t.mate_has));
}

pub given_size : {xs ys : List ℕ} {n r c d : ℕ} → IsTaken xs ys n r c d → length (pairs_of (set (set xs d none) c r)) ≡ length (pairs_of xs)
given_size {xs = xs} {ys = ys} {n = n} {r = r} {c = c} {d = d} t =
    let some = not_none r ys t.row_in t.mates.few_rows in
    one_more_from 0 (set xs d none) c r (omega (arith, length-set xs d none, t.col_in)) (get_or-set_other xs d c none 0 (λ e. mate_apart xs ys n r c d t (sym e)) ∙ t.col_free) some
    ∙ one_less_from 0 xs d t.mate_in (λ z. some (sym t.mate_has ∙ z))

pub given_mates : {xs ys : List ℕ} {n r c d : ℕ} → IsTaken xs ys n r c d → AreMates (set (set xs d none) c r) (set ys r c) n
given_mates {xs = xs} {ys = ys} {n = n} {r = r} {c = c} {d = d} t = handed_mates xs (set (set xs d none) c r) ys n n r c t.mates (given t) t.row_in (t.mates.count ∙ sym (given_size t))
