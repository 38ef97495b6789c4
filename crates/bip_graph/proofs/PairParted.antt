-- What is left where a pair is parted.
use Rattle.std.proofs.Common.{◌≡◌, ◌≢◌, ◌↔◌, ◌∙◌, ℕ, suc, ◌-◌, ◌<◌, List, length, get_or, set, sym, ap, subst, ⊎_elim, arith, length-set, get_or-set_same, get_or-set_other}
use Rattle.bip_defs.specs.Lists.{Among}
use Rattle.bip_defs.specs.Matrix.{Place}
use Rattle.bip_defs.proofs.Sets.{number_same}
use Rattle.bip_graph.specs.Matching.{AreMates, LeadsBack, Pairing, none, pairs_of}
use Rattle.bip_graph.proofs.Arrays.{one_less_from, read, stored}
use Rattle.bip_graph.proofs.MateArrays.{back, not_none}
use Rattle.bip_graph.proofs.MatchingViews.{shown}

-- a row and a column that are each other's mates
pub record ArePaired (xs ys : List ℕ) (n r c : ℕ) : Type 0 where
  pub mates : AreMates xs ys n
  pub row_in : r < length ys
  pub col_in : c < length xs
  pub row_has : get_or ys r 0 ≡ c
  pub col_has : get_or xs c 0 ≡ r

pub paired_from : {xs ys : List ℕ} {n : ℕ} {v : Pairing} {j i r c : ℕ} → AreMates xs ys n → shown xs ys ≡ v → j ≡ r → i ≡ c → Among (r, c) v.pairs → ArePaired xs ys n j i
paired_from {xs = xs} {ys = ys} {n = n} {j = j} {i = i} {r = r} {c = c} m seen e f = subst (λ (w : Pairing). Among (r, c) w.pairs → ArePaired xs ys n j i) seen
    (λ h. subst (λ r. ArePaired xs ys n r i) (sym e) (subst (λ c. ArePaired xs ys n r c) (sym f) (by h)))
  where
    by : Among (r, c) (pairs_of xs) → ArePaired xs ys n r c
    by h = let is = read xs r c h in record { mates = m; row_in = (back xs ys n r c m h).0; col_in = is.0; row_has = (back xs ys n r c m h).1; col_has = is.1 }

-- mates lead back where two that lead to one another are taken away
still_back : (xs ys : List ℕ) (r c : ℕ) → LeadsBack xs ys → get_or ys r 0 ≡ c → c < length xs → LeadsBack (set xs c none) (set ys r none)
still_back xs ys r c back has c_in i lt some = ⊎_elim gone kept (number_same i c)
  where
    gone : i ≡ c → (get_or (set xs c none) i 0 < length (set ys r none)) × (get_or (set ys r none) (get_or (set xs c none) i 0) 0 ≡ i)
    gone e = absurd (some (ap (λ x. get_or (set xs c none) x 0) e ∙ get_or-set_same xs c none 0 c_in))

    kept : i ≢ c → (get_or (set xs c none) i 0 < length (set ys r none)) × (get_or (set ys r none) (get_or (set xs c none) i 0) 0 ≡ i)
    kept ne =
        let same = get_or-set_other xs c i none 0 ne in
        let b = back i (omega (arith, length-set xs c none)) (λ e. some (same ∙ e)) in
        subst (λ x. (x < length (set ys r none)) × (get_or (set ys r none) x 0 ≡ i)) (sym same)
        ((let l = b.0 in omega (arith, length-set ys r none)), get_or-set_other ys r (get_or xs i 0) none 0 (λ e. ne (sym b.1 ∙ ap (λ x. get_or ys x 0) e ∙ has)) ∙ b.1)

pub parted_size : {xs ys : List ℕ} {n r c : ℕ} → ArePaired xs ys n r c → suc (length (pairs_of (set xs c none))) ≡ length (pairs_of xs)
parted_size {xs = xs} {ys = ys} {n = n} {r = r} {c = c} p = one_less_from 0 xs c p.col_in (λ z. not_none r ys p.row_in p.mates.few_rows (sym p.col_has ∙ z))

pub parted_mates : {xs ys : List ℕ} {n r c : ℕ} → ArePaired xs ys n r c → AreMates (set xs c none) (set ys r none) (n - 1)
parted_mates {xs = xs} {ys = ys} {n = n} {r = r} {c = c} p = record {
  few_cols = let few = p.mates.few_cols in omega (arith, length-set xs c none);
  few_rows = let few = p.mates.few_rows in omega (arith, length-set ys r none);
  by_col = still_back xs ys r c p.mates.by_col p.row_has p.col_in;
  by_row = still_back ys xs c r p.mates.by_row p.col_has p.row_in;
  count = omega (arith, p.mates.count, parted_size p);
}

parted_pairs : {xs ys : List ℕ} {n r c : ℕ} → ArePaired xs ys n r c → (p : Place) → Among p (pairs_of (set xs c none)) ↔ (Among p (pairs_of xs) × (p.0 ≢ r))
parted_pairs {xs = xs} {ys = ys} {n = n} {r = r} {c = c} p q = (over, return)
  where
    over : Among q (pairs_of (set xs c none)) → Among q (pairs_of xs) × (q.0 ≢ r)
    over h =
        let is = read (set xs c none) q.0 q.1 h in
        let ne : q.1 ≢ c = λ e. is.2 (sym is.1 ∙ ap (λ x. get_or (set xs c none) x 0) e ∙ get_or-set_same xs c none 0 p.col_in) in
        let kept = stored xs q.0 q.1 (let lt = is.0 in omega (arith, length-set xs c none)) (sym (get_or-set_other xs c q.1 none 0 ne) ∙ is.1) is.2 in
        (kept, λ e. ne (sym (back xs ys n q.0 q.1 p.mates kept).1 ∙ ap (λ x. get_or ys x 0) e ∙ p.row_has))

    return : Among q (pairs_of xs) × (q.0 ≢ r) → Among q (pairs_of (set xs c none))
    return h =
        let is = read xs q.0 q.1 h.0 in
        let ne : q.1 ≢ c = λ e. h.1 (sym is.1 ∙ ap (λ x. get_or xs x 0) e ∙ p.col_has) in
        stored (set xs c none) q.0 q.1 (let lt = is.0 in omega (arith, length-set xs c none)) (get_or-set_other xs c q.1 none 0 ne ∙ is.1) is.2

pub seen_parted : {xs ys : List ℕ} {n : ℕ} {v : Pairing} {j i r : ℕ} → shown xs ys ≡ v → j ≡ r → ArePaired xs ys n j i → (p : Place) → Among p (pairs_of (set xs i none)) ↔ (Among p v.pairs × (p.0 ≢ r))
seen_parted {xs = xs} {i = i} {r = r} seen e p q = subst (λ (w : Pairing). Among q (pairs_of (set xs i none)) ↔ (Among q w.pairs × (q.0 ≢ r))) seen (subst (λ r. Among q (pairs_of (set xs i none)) ↔ (Among q (pairs_of xs) × (q.0 ≢ r))) e (parted_pairs p q))
