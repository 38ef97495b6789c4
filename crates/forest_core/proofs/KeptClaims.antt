-- Moving the claims that stay to the front of their list.
use Rattle.std.proofs.Common.{◌≡◌, ◌≢◌, ◌⊎◌, ◌∙◌, ℕ, suc, ◌+◌, ◌<◌, ◌≤◌, Bool, true, false, not, cond, List, [], ◌∷◌, ◌++◌, take, drop, filter, length, length-set, set, slice_index_or, Option, None, Some, is_some, refl, sym, ap, subst, inl, inr, ⊎_elim, arith, add-one, append_assoc, drop-cons, drop_of_length-le}
use Rattle.std.proofs.lemmas.List.{append-nil, drop-set-lt, get_or-set_other, get_or-set_same, get_or-take, get_or_read, length-take-le, take-append-drop, take_all, take_more, take_more_set}
use Rattle.bip_defs.specs.Lists.{Among, AreDistinct}
use Rattle.bip_defs.specs.Matching.{rows_of}
use Rattle.bip_defs.specs.Matrix.{Place}
use Rattle.bip_defs.proofs.Sets.{among_either, among_left, among_right, filter_sound, number_same, row_among, row_pair}
use Rattle.forest_core.specs.Kept.{kept, root_has_leaf, stays}
use Rattle.forest_core.specs.Stored.{AreClaimRoots, HasRootAt}
use Rattle.forest_core.specs.Tables.{Claimed, IsTableOf, beside}
use Rattle.forest_core.proofs.TableLemmas.{table_clear}

-- One element more of a filtered list.

filter_out : {X : Type 0} (test : X → Bool) (xs : List X) (x : X) → test x ≡ false → filter test (xs ++ x ∷ []) ≡ filter test xs
filter_out test [] x e = rw e refl
filter_out {X = X} test (y ∷ xs) x e = ap (λ (zs : List X). cond (test y) (y ∷ zs) zs) (filter_out test xs x e)

filter_in : {X : Type 0} (test : X → Bool) (xs : List X) (x : X) → test x ≡ true → filter test (xs ++ x ∷ []) ≡ filter test xs ++ x ∷ []
filter_in test [] x e = rw e refl
filter_in {X = X} test (y ∷ xs) x e = by (test y) (filter_in test xs x e)
  where
    by : (b : Bool) → filter test (xs ++ x ∷ []) ≡ filter test xs ++ x ∷ [] → cond b (y ∷ filter test (xs ++ x ∷ [])) (filter test (xs ++ x ∷ [])) ≡ cond b (y ∷ filter test xs) (filter test xs) ++ x ∷ []
    by true h = ap (λ (zs : List X). y ∷ zs) h
    by false h = h

-- the row in the middle of a list with distinct rows is on neither side
apart : (xs ys : List Place) (p : Place) (c : ℕ) → AreDistinct (rows_of (xs ++ p ∷ ys)) → ¬ (Among (p.0, c) xs ⊎ Among (p.0, c) ys)
apart [] ys p c a (inl h) = h
apart [] ys p c a (inr h) = a.0 (row_among p.0 c ys h)
apart (x ∷ xs) ys p c a (inl (inl e)) = a.0 (subst (λ z. Among z (rows_of (xs ++ p ∷ ys))) (ap (λ (q : Place). q.0) e) (row_among p.0 p.1 (xs ++ p ∷ ys) (among_right p xs (p ∷ ys) (inl refl))))
apart (x ∷ xs) ys p c a (inl (inr h)) = apart xs ys p c a.1 (inl h)
apart (x ∷ xs) ys p c a (inr h) = apart xs ys p c a.1 (inr h)

-- the claims before the place were looked at, and those that stay stand in front, each with its
-- root
pub record IsKeeping (roots leaf_of : List (Option ℕ)) (old now : List Place) (xs : List ℕ) (t : Claimed) (i stay : ℕ) : Type 0 where
  pub within : stay ≤ i
  pub prefix : take stay now ≡ kept roots leaf_of (take i old)
  pub rest : drop i now ≡ drop i old
  pub table : IsTableOf (kept roots leaf_of (take i old) ++ drop i old) t.holders
  pub long : length xs ≡ length now
  pub rooted : (j : ℕ) → (j < stay) ⊎ (i ≤ j) → j < length now → HasRootAt roots now xs j
  pub same : (r c : ℕ) → Among (r, c) (kept roots leaf_of (take i old) ++ drop i old) → beside t.roots r ≡ beside roots r

pub keeping_start : (leaf_of : List (Option ℕ)) (old : List Place) (xs : List ℕ) (t : Claimed) → IsTableOf old t.holders → AreClaimRoots t.roots old xs → IsKeeping t.roots leaf_of old old xs t 0 0
keeping_start leaf_of old xs t of are = record {
  within = omega arith;
  prefix = refl;
  rest = refl;
  table = of;
  long = are.long;
  rooted = λ j m lt. are.are j lt;
  same = λ r c h. refl;
}

-- what stands at the place, and behind it
pub record IsAt (old now : List Place) (i : ℕ) (p : Place) : Type 0 where
  pub here : take (i + 1) old ≡ take i old ++ p ∷ []
  pub behind : drop i old ≡ p ∷ drop (i + 1) old
  pub same : drop (i + 1) now ≡ drop (i + 1) old

pub is_at : (old now : List Place) (i : ℕ) (p : Place) → i < length old → length now ≡ length old → drop i now ≡ drop i old → p ≡ slice_index_or now i p → IsAt old now i p
is_at old now i p lt long e read =
    let within : i < length now = omega arith in
    let cut : slice_index_or now i p ∷ drop (suc i) now ≡ slice_index_or old i p ∷ drop (suc i) old = sym (drop-cons now i p within) ∙ e ∙ drop-cons old i p lt in
    let at : p ≡ slice_index_or old i p = read ∙ ap (head p) cut in
    record {
      here = take_more old i p lt ∙ ap (λ (q : Place). take i old ++ q ∷ []) (sym at);
      behind = drop-cons old i p lt ∙ rw (add-one i) (ap (λ (q : Place). q ∷ drop (suc i) old) (sym at));
      same = rw (add-one i) (ap tail cut);
    }
  where
    head : Place → List Place → Place
    head d [] = d
    head d (q ∷ qs) = q

    tail : List Place → List Place
    tail [] = []
    tail (q ∷ qs) = qs

-- the root of the claim at the place, in the table
pub root_here : (roots leaf_of : List (Option ℕ)) (old now : List Place) (xs : List ℕ) (t : Claimed) (i stay : ℕ) (p : Place) (x : ℕ) → IsKeeping roots leaf_of old now xs t i stay → i < length now → p ≡ slice_index_or now i p → x ≡ slice_index_or xs i x → beside roots p.0 ≡ Some x
root_here roots leaf_of old now xs t i stay p x k lt is at =
    ap (λ (q : Place). beside roots q.0) (get_or_read now i p lt is (0, 0)) ∙ k.rooted i (inr (omega arith)) lt ∙ ap (λ (y : ℕ). Some y) (sym (get_or_read xs i x (omega (arith, lt, k.long)) at 0))

-- the answer says whether that root has a leaf
pub leaf_known : (roots leaf_of : List (Option ℕ)) (p : Place) (x : ℕ) (o : Option ℕ) (fact b : Bool) → beside roots p.0 ≡ Some x → o ≡ beside leaf_of x → fact ≡ is_some o → fact ≡ b → root_has_leaf leaf_of (beside roots p.0) ≡ b
leaf_known roots leaf_of p x o fact b root e f g = ap (root_has_leaf leaf_of) root ∙ ap is_some (sym e) ∙ sym f ∙ g

-- numbers below n
abbrev pub AreBelow : ℕ → List ℕ → Type 0
AreBelow n xs = (i : ℕ) → i < length xs → slice_index_or xs i 0 < n

pub below_set : (n : ℕ) (xs : List ℕ) (k x : ℕ) → AreBelow n xs → x < n → AreBelow n (set xs k x)
below_set n xs k x are lt i within = ⊎_elim (λ (e : i ≡ k). subst (λ y. y < n) (sym (ap (λ j. slice_index_or (set xs k x) j 0) e ∙ get_or-set_same xs k x 0 (omega (arith, inside, e)))) lt) (λ ne. subst (λ y. y < n) (sym (get_or-set_other xs k i x 0 ne)) (are i inside)) (number_same i k)
  where
    inside : i < length xs
    inside = omega (arith, within, length-set xs k x)

pub root_below_here : (n : ℕ) (xs : List ℕ) (i x : ℕ) → AreBelow n xs → i < length xs → x ≡ slice_index_or xs i x → x < n
root_below_here n xs i x are lt is = subst (λ y. y < n) (sym (get_or_read xs i x lt is 0)) (are i lt)

-- a claim whose root has a leaf goes
pub keeping_won : (roots leaf_of : List (Option ℕ)) (old now : List Place) (xs : List ℕ) (t u : Claimed) (i stay : ℕ) (p : Place) → IsKeeping roots leaf_of old now xs t i stay → IsAt old now i p → root_has_leaf leaf_of (beside roots p.0) ≡ true → AreDistinct (rows_of old) → p.0 < length t.holders → u.holders ≡ set t.holders p.0 None → u.roots ≡ set t.roots p.0 None
    → IsKeeping roots leaf_of old now xs u (i + 1) stay
keeping_won roots leaf_of old now xs t u i stay p k at won differ lt holders_are roots_are = record {
  within = (let le = k.within in omega arith);
  prefix = k.prefix ∙ sym gone;
  rest = at.same;
  table = subst (λ h. IsTableOf (kept roots leaf_of (take (i + 1) old) ++ drop (i + 1) old) h) (sym holders_are) (subst (λ qs. IsTableOf (qs ++ drop (i + 1) old) (set t.holders p.0 None)) (sym gone) (table_clear (keep ++ drop i old) (keep ++ drop (i + 1) old) t.holders p.0 k.table lt not_there over back));
  long = k.long;
  rooted = λ j m below. k.rooted j (⊎_elim (λ f. inl f) (λ (f : i + 1 ≤ j). inr (omega arith)) m) below;
  same = λ r c h. same r c (subst (λ qs. Among (r, c) (qs ++ drop (i + 1) old)) gone h);
}
  where
    keep : List Place
    keep = kept roots leaf_of (take i old)

    gone : kept roots leaf_of (take (i + 1) old) ≡ kept roots leaf_of (take i old)
    gone = ap (kept roots leaf_of) at.here ∙ filter_out (stays roots leaf_of) (take i old) p (ap not won)

    middle : AreDistinct (rows_of (take i old ++ p ∷ drop (i + 1) old))
    middle = subst (λ qs. AreDistinct (rows_of qs)) (sym (take-append-drop i old) ∙ ap (λ qs. take i old ++ qs) at.behind) differ

    not_there : ¬ Among p.0 (rows_of (kept roots leaf_of (take i old) ++ drop (i + 1) old))
    not_there h =
        let (c, g) = row_pair p.0 (kept roots leaf_of (take i old) ++ drop (i + 1) old) h in
        apart (take i old) (drop (i + 1) old) p c middle (⊎_elim (λ f. inl (filter_sound (stays roots leaf_of) (p.0, c) (take i old) f).0) (λ f. inr f) (among_either (p.0, c) (kept roots leaf_of (take i old)) (drop (i + 1) old) g))

    over : (j w : ℕ) → j ≢ p.0 → Among (j, w) (kept roots leaf_of (take i old) ++ drop i old) → Among (j, w) (kept roots leaf_of (take i old) ++ drop (i + 1) old)
    over j w ne h = ⊎_elim (λ f. among_left (j, w) (kept roots leaf_of (take i old)) (drop (i + 1) old) f) (λ f. ⊎_elim (λ (e : (j, w) ≡ p). absurd (ne (ap (λ (q : Place). q.0) e))) (λ g. among_right (j, w) (kept roots leaf_of (take i old)) (drop (i + 1) old) g) (subst (Among (j, w)) at.behind f)) (among_either (j, w) (kept roots leaf_of (take i old)) (drop i old) h)

    back : (j w : ℕ) → Among (j, w) (kept roots leaf_of (take i old) ++ drop (i + 1) old) → Among (j, w) (kept roots leaf_of (take i old) ++ drop i old)
    back j w h = ⊎_elim (λ f. among_left (j, w) (kept roots leaf_of (take i old)) (drop i old) f) (λ f. among_right (j, w) (kept roots leaf_of (take i old)) (drop i old) (subst (Among (j, w)) (sym at.behind) (inr f))) (among_either (j, w) (kept roots leaf_of (take i old)) (drop (i + 1) old) h)

    same : (r c : ℕ) → Among (r, c) (kept roots leaf_of (take i old) ++ drop (i + 1) old) → beside u.roots r ≡ beside roots r
    same r c h =
        let other : r ≢ p.0 = λ e. not_there (subst (λ z. Among z (rows_of (kept roots leaf_of (take i old) ++ drop (i + 1) old))) e (row_among r c (kept roots leaf_of (take i old) ++ drop (i + 1) old) h)) in
        ap (λ z. beside z r) roots_are ∙ get_or-set_other t.roots p.0 r None None other ∙ k.same r c (back r c h)

-- another moves to the front
pub keeping_stays : (roots leaf_of : List (Option ℕ)) (old now : List Place) (xs : List ℕ) (t : Claimed) (i stay : ℕ) (p : Place) (x : ℕ) → IsKeeping roots leaf_of old now xs t i stay → IsAt old now i p → beside roots p.0 ≡ Some x → root_has_leaf leaf_of (beside roots p.0) ≡ false → i < length now → IsKeeping roots leaf_of old (set now stay p) (set xs stay x) t (i + 1) (stay + 1)
keeping_stays roots leaf_of old now xs t i stay p x k at root not_won lt = record {
  within = (let le = k.within in omega arith);
  prefix = take_more_set now stay p below ∙ ap (λ qs. qs ++ p ∷ []) k.prefix ∙ sym more;
  rest = drop-set-lt (i + 1) now stay p (let le = k.within in omega arith) ∙ at.same;
  table = subst (λ qs. IsTableOf qs t.holders) whole k.table;
  long = length-set xs stay x ∙ k.long ∙ sym (length-set now stay p);
  rooted = λ j m le. ⊎_elim (λ (e : j ≡ stay). here j e) (λ (ne : j ≢ stay). there j ne (⊎_elim (λ (f : j < stay + 1). inl (omega arith)) (λ (f : i + 1 ≤ j). inr (omega arith)) m) (subst (λ n. j < n) (length-set now stay p) le)) (number_same j stay);
  same = λ r c h. k.same r c (subst (λ qs. Among (r, c) qs) (sym whole) h);
}
  where
    below : stay < length now
    below = let le = k.within in omega arith

    more : kept roots leaf_of (take (i + 1) old) ≡ kept roots leaf_of (take i old) ++ p ∷ []
    more = ap (kept roots leaf_of) at.here ∙ filter_in (stays roots leaf_of) (take i old) p (ap not not_won)

    whole : kept roots leaf_of (take i old) ++ drop i old ≡ kept roots leaf_of (take (i + 1) old) ++ drop (i + 1) old
    whole = ap (λ qs. kept roots leaf_of (take i old) ++ qs) at.behind ∙ sym (append_assoc (kept roots leaf_of (take i old)) (p ∷ []) (drop (i + 1) old)) ∙ ap (λ qs. qs ++ drop (i + 1) old) (sym more)

    here : (j : ℕ) → j ≡ stay → HasRootAt roots (set now stay p) (set xs stay x) j
    here j e = subst (HasRootAt roots (set now stay p) (set xs stay x)) (sym e) (ap (λ (q : Place). beside roots q.0) (get_or-set_same now stay p (0, 0) below) ∙ root ∙ ap (λ (y : ℕ). Some y) (sym (get_or-set_same xs stay x 0 (omega (arith, below, k.long)))))

    there : (j : ℕ) → j ≢ stay → (j < stay) ⊎ (i ≤ j) → j < length now → HasRootAt roots (set now stay p) (set xs stay x) j
    there j ne m le = ap (λ (q : Place). beside roots q.0) (get_or-set_other now stay j p (0, 0) ne) ∙ k.rooted j m le ∙ ap (λ (y : ℕ). Some y) (sym (get_or-set_other xs stay j x 0 ne))

pub at_among : (old now : List Place) (i : ℕ) (p : Place) → IsAt old now i p → Among p old
at_among old now i p at = subst (Among p) (take-append-drop i old) (among_right p (take i old) (drop i old) (subst (Among p) (sym at.behind) (inl refl)))

-- all claims were looked at
pub keeping_end : (roots leaf_of : List (Option ℕ)) (old now : List Place) (xs : List ℕ) (t : Claimed) (i stay : ℕ) → IsKeeping roots leaf_of old now xs t i stay → length old ≤ i → take stay now ≡ kept roots leaf_of old
keeping_end roots leaf_of old now xs t i stay k le = k.prefix ∙ ap (kept roots leaf_of) (take_all i old le)

-- and the claims that stay are those of the front
whole_prefix : (roots leaf_of : List (Option ℕ)) (old now : List Place) (xs : List ℕ) (t : Claimed) (i stay : ℕ) → IsKeeping roots leaf_of old now xs t i stay → length old ≤ i → kept roots leaf_of (take i old) ++ drop i old ≡ take stay now
whole_prefix roots leaf_of old now xs t i stay k le = ap (λ qs. kept roots leaf_of (take i old) ++ qs) (drop_of_length-le old le) ∙ append-nil (kept roots leaf_of (take i old)) ∙ sym k.prefix

pub keeping_table : (roots leaf_of : List (Option ℕ)) (old now : List Place) (xs : List ℕ) (t : Claimed) (i stay : ℕ) → IsKeeping roots leaf_of old now xs t i stay → length old ≤ i → IsTableOf (take stay now) t.holders
keeping_table roots leaf_of old now xs t i stay k le = subst (λ qs. IsTableOf qs t.holders) (whole_prefix roots leaf_of old now xs t i stay k le) k.table

pub keeping_same : (roots leaf_of : List (Option ℕ)) (old now : List Place) (xs : List ℕ) (t : Claimed) (i stay : ℕ) → IsKeeping roots leaf_of old now xs t i stay → length old ≤ i → (r c : ℕ) → Among (r, c) (take stay now) → beside t.roots r ≡ beside roots r
keeping_same roots leaf_of old now xs t i stay k le r c h = k.same r c (subst (Among (r, c)) (sym (whole_prefix roots leaf_of old now xs t i stay k le)) h)

pub keeping_roots : (roots leaf_of : List (Option ℕ)) (old now : List Place) (xs : List ℕ) (t : Claimed) (i stay : ℕ) → IsKeeping roots leaf_of old now xs t i stay → stay ≤ length now → AreClaimRoots roots (take stay now) (take stay xs)
keeping_roots roots leaf_of old now xs t i stay k le = record {
  long = length-take-le stay xs (omega (arith, le, k.long)) ∙ sym (length-take-le stay now le);
  are = λ j lt.
      let below : j < stay = omega (arith, lt, length-take-le stay now le) in
      ap (λ (q : Place). beside roots q.0) (get_or-take stay now j (0, 0) below) ∙ k.rooted j (inl below) (omega (arith, below, le)) ∙ ap (λ (y : ℕ). Some y) (sym (get_or-take stay xs j 0 below));
}
