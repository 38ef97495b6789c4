-- What is read from tables, and what they hold after a change.
use Rattle.std.proofs.Common.{◌≡◌, ◌≢◌, ◌⊎◌, ◌↔◌, ◌∙◌, ℕ, zero, suc, ◌+◌, ◌<◌, ◌≤◌, List, [], ◌∷◌, ◌++◌, map, replicate, set, length, length-append, Option, None, Some, IfSome, IfNone, refl, sym, ap, subst, inl, ⊎_elim, arith, ne_eqb, eq-eqb}
use Rattle.std.proofs.lemmas.List.{length-map, get_or-map, get_or-replicate, get_or_append_left, get_or_past, get_or_push, length-replicate, get_or-set_other, get_or-set_same, map-set}
use Rattle.std.proofs.lemmas.Option.{none-some, same_Some}
use Rattle.bip_defs.specs.Lists.{Among}
use Rattle.bip_defs.specs.Matching.{rows_of}
use Rattle.bip_defs.specs.Matrix.{Place}
use Rattle.bip_defs.proofs.Sets.{among_last, among_left, among_right, number_same, row_among}
use Rattle.forest_core.specs.Tables.{AreAlike, IsTableOf, beside, holder_in, read, root_in}

pub read_none : (n : ℕ) → n ≡ 4294967295 → read n ≡ None
read_none n e = rw (eq-eqb n 4294967295 e) refl

pub read_some : (n : ℕ) → n ≢ 4294967295 → read n ≡ Some n
read_some n ne = rw (ne_eqb n 4294967295 ne) refl

-- What is read.

pub seen_put : {W : Type 0} (f : W → Option ℕ) (xs : List W) (t : List (Option ℕ)) (k : ℕ) (w : W) (o : Option ℕ) → map f xs ≡ t → f w ≡ o → map f (set xs k w) ≡ set t k o
seen_put f xs t k w o seen e = map-set f xs k w ∙ ap (set (map f xs) k) e ∙ ap (λ u. set u k o) seen

-- a new table has nothing
pub seen_new : {W : Type 0} (f : W → Option ℕ) (n : ℕ) (w : W) (xs : List W) (k : ℕ) → f w ≡ None → xs ≡ replicate n w → beside (map f xs) k ≡ None
seen_new {W = W} f n w xs k nothing e = subst (λ ys. beside (map f ys) k ≡ None) (sym e) (⊎_elim inside past (below k n))
  where
    below : (i n : ℕ) → (i < n) ⊎ (n ≤ i)
    below i n = grind arith

    inside : k < n → beside (map f (replicate n w)) k ≡ None
    inside lt = get_or-map f (replicate n w) k w None (omega (arith, length-map (replicate n w) f, length-replicate {A = W} n w)) ∙ ap f (get_or-replicate n k w w lt) ∙ nothing

    past : n ≤ k → beside (map f (replicate n w)) k ≡ None
    past le = get_or_past (map f (replicate n w)) k None (omega (arith, length-map (replicate n w) f, length-replicate {A = W} n w))

-- The root of a row.

pub root_none : (h x : ℕ) → h ≡ 4294967295 → root_in h x ≡ None
root_none h x e = rw (eq-eqb h 4294967295 e) refl

pub root_some : (h x : ℕ) → h ≢ 4294967295 → root_in h x ≡ Some x
root_some h x ne = rw (ne_eqb h 4294967295 ne) refl

-- a row with a root has a holder
pub seen_alike : {W : Type 0} (h x : W → ℕ) (ws : List W) → AreAlike (record { holders = map (λ w. holder_in (h w)) ws; roots = map (λ w. root_in (h w) (x w)) ws })
seen_alike h x [] r y e = absurd (none-some _ (sym (get_or_past (map (λ w. root_in (h w) (x w)) []) r None (omega arith)) ∙ e))
seen_alike h x (w ∷ ws) zero y e = ⊎_elim (λ (n : h w ≡ 4294967295). absurd (none-some _ (sym (root_none (h w) (x w) n) ∙ e))) (λ n. (h w, read_some (h w) n)) (number_same (h w) 4294967295)
seen_alike h x (w ∷ ws) (suc r) y e = seen_alike h x ws r y e

-- Tables of lists.

beside_same : (t : List (Option ℕ)) (k : ℕ) (o : Option ℕ) → k < length t → beside (set t k o) k ≡ o
beside_same t k o lt = get_or-set_same t k o None lt

beside_other : (t : List (Option ℕ)) (j k : ℕ) (o : Option ℕ) → j ≢ k → beside (set t k o) j ≡ beside t j
beside_other t j k o ne = get_or-set_other t k j o None ne

-- one pair more, whose first is new
pub table_put : (pairs : List Place) (t : List (Option ℕ)) (k v : ℕ) → IsTableOf pairs t → k < length t → ¬ Among k (rows_of pairs) → IsTableOf (pairs ++ (k, v) ∷ []) (set t k (Some v))
table_put pairs t k v of lt new j w = ⊎_elim same other (number_same j k)
  where
    same : j ≡ k → (beside (set t k (Some v)) j ≡ Some w) ↔ Among (j, w) (pairs ++ (k, v) ∷ [])
    same e = (
      λ f. let g : v ≡ w = same_Some _ _ (sym (beside_same t k (Some v) lt) ∙ ap (beside (set t k (Some v))) (sym e) ∙ f) in among_right (j, w) pairs ((k, v) ∷ []) (inl (λ i. (e i, sym g i))),
      λ h. ap (beside (set t k (Some v))) e ∙ beside_same t k (Some v) lt ∙ ap (λ (x : ℕ). Some x) (⊎_elim (λ g. absurd (new (subst (λ x. Among x (rows_of pairs)) e (row_among j w pairs g)))) (λ (g : (j, w) ≡ (k, v)). sym (ap (λ (p : Place). p.1) g)) (among_last (j, w) (k, v) pairs h)),
    )

    other : j ≢ k → (beside (set t k (Some v)) j ≡ Some w) ↔ Among (j, w) (pairs ++ (k, v) ∷ [])
    other ne = (
      λ f. among_left (j, w) pairs ((k, v) ∷ []) ((of j w).0 (sym (beside_other t j k (Some v) ne) ∙ f)),
      λ h. beside_other t j k (Some v) ne ∙ (of j w).1 (⊎_elim (λ g. g) (λ (g : (j, w) ≡ (k, v)). absurd (ne (ap (λ (p : Place). p.0) g))) (among_last (j, w) (k, v) pairs h)),
    )

-- the pairs of one first are gone
pub table_clear : (pairs new : List Place) (t : List (Option ℕ)) (k : ℕ) → IsTableOf pairs t → k < length t → ¬ Among k (rows_of new) → ((j w : ℕ) → j ≢ k → Among (j, w) pairs → Among (j, w) new) → ((j w : ℕ) → Among (j, w) new → Among (j, w) pairs) → IsTableOf new (set t k None)
table_clear pairs new t k of lt gone over back j w = ⊎_elim same other (number_same j k)
  where
    same : j ≡ k → (beside (set t k None) j ≡ Some w) ↔ Among (j, w) new
    same e = (
      λ f. absurd (none-some _ (sym (beside_same t k None lt) ∙ ap (beside (set t k None)) (sym e) ∙ f)),
      λ h. absurd (gone (subst (λ x. Among x (rows_of new)) e (row_among j w new h))),
    )

    other : j ≢ k → (beside (set t k None) j ≡ Some w) ↔ Among (j, w) new
    other ne = (
      λ f. over j w ne ((of j w).0 (sym (beside_other t j k None ne) ∙ f)),
      λ h. beside_other t j k None ne ∙ (of j w).1 (back j w h),
    )

-- Tables that hold no more than a list.

pub record IsWithin (pairs : List Place) (t : List (Option ℕ)) : Type 0 where
  pub held : (k v : ℕ) → beside t k ≡ Some v → Among (k, v) pairs

pub within_none : (t : List (Option ℕ)) → IsWithin [] t → IsTableOf [] t
within_none t of k v = (λ h. of.held k v h, λ h. absurd h)

-- Tables that are made in order.

-- of the numbers below n the one of which P holds
pub record IsMadeTo (P : ℕ → ℕ → Type 0) (n : ℕ) (t : List (Option ℕ)) : Type 0 where
  pub long : length t ≡ n
  pub are : (k v : ℕ) → k < n → (beside t k ≡ Some v) ↔ P k v

-- one number more
pub made_more : (P : ℕ → ℕ → Type 0) (n : ℕ) (t : List (Option ℕ)) (o : Option ℕ) → IsMadeTo P n t → ((v : ℕ) → (o ≡ Some v) ↔ P n v) → IsMadeTo P (n + 1) (t ++ o ∷ [])
made_more P n t o k is = record {
  long = omega (arith, k.long, length-append t (o ∷ []));
  are = λ j v lt. ⊎_elim (λ (e : j ≡ n). last j v e) (λ (ne : j ≢ n). first j v (omega (arith, ne, lt))) (number_same j n);
}
  where
    last : (j v : ℕ) → j ≡ n → (beside (t ++ o ∷ []) j ≡ Some v) ↔ P j v
    last j v e =
        let at : beside (t ++ o ∷ []) j ≡ o = get_or_push t o None j (k.long ∙ sym e) in (
          λ f. subst (λ i. P i v) (sym e) ((is v).0 (sym at ∙ f)),
          λ p. at ∙ (is v).1 (subst (λ i. P i v) e p),
        )

    first : (j v : ℕ) → j < n → (beside (t ++ o ∷ []) j ≡ Some v) ↔ P j v
    first j v lt =
        let same : beside (t ++ o ∷ []) j ≡ beside t j = get_or_append_left t (o ∷ []) None j (omega (arith, lt, k.long)) in
        (λ f. (k.are j v lt).0 (sym same ∙ f), λ p. same ∙ (k.are j v lt).1 p)

-- what an answer says of one number
pub some_is : (P : ℕ → Type 0) (N : Type 0) (o : Option ℕ) → ((v w : ℕ) → P v → P w → v ≡ w) → IfSome o P → (N → (v : ℕ) → ¬ P v) → IfNone o N → (v : ℕ) → (o ≡ Some v) ↔ P v
some_is P N None one found has_none none v = (λ e. absurd (none-some _ e), λ p. absurd (has_none none v p))
some_is P N (Some x) one found has_none none v = (λ e. subst P (same_Some _ _ e) found, λ p. ap (λ (i : ℕ). Some i) (one x v found p))
