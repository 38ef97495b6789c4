-- Edited matrices: their entries and places, edits that are taken back, and what an edit leaves of matchings.
use Rattle.std.proofs.Common.{◌≡◌, ◌≢◌, ◌⊎◌, ◌↔◌, ◌∙◌, ℕ, zero, suc, ◌+◌, ◌<◌, ◌≤◌, ◌&&◌, true, false, not, List, [], ◌∷◌, length, nat_eq, set, get_or, sum_by, refl, sym, ap, subst, inl, inr, ⊎_elim, arith, eq-eqb, ne_eqb, true≢false, get_or-set_same, get_or-set_other}
use Rattle.std.proofs.Math.Decide.{dec_lt}
use Rattle.std.proofs.lemmas.List.{length-set, set-get_or, set-set, set_past}
use Rattle.std.proofs.lemmas.List.Sums.{sum_by-cons}
use Rattle.bip_defs.specs.EditedMatrix.{AreWithin, Clear, Edit, Set, edited, edited_places, places_after, with_place, with_number, without_place, without_number}
use Rattle.bip_defs.specs.Lists.{Among, IsRising, Lists}
use Rattle.bip_defs.specs.Matching.{IsMatching, IsMaximum, IsRank, cols_of, rows_of}
use Rattle.bip_defs.specs.Matrix.{HasPlaces, IsEntry, Matrix, Place, cols, column, entry_count}
use Rattle.bip_defs.proofs.Exchange.{adds_pair, drops_pair}
use Rattle.bip_defs.proofs.Sets.{below_each_from, below_each_sound, distinct_pairs, drops_gone, drops_length, entry_col, filter_complete, filter_sound, is_among, number_same, place_same, rising_filter, rising_unique, taken, test_is, test_is_not}

-- Rising lists with a number more or less.

-- where the number is put in
with_cases : (x y : ℕ) (ys : List ℕ) → ((x < y) × (with_number x (y ∷ ys) ≡ x ∷ y ∷ ys)) ⊎ (((x ≡ y) × (with_number x (y ∷ ys) ≡ y ∷ ys)) ⊎ ((y < x) × (with_number x (y ∷ ys) ≡ y ∷ with_number x ys)))
with_cases x y ys = by (dec_lt x y) (number_same x y)
  where
    by : Dec (x < y) → (x ≡ y) ⊎ (x ≢ y) → ((x < y) × (with_number x (y ∷ ys) ≡ x ∷ y ∷ ys)) ⊎ (((x ≡ y) × (with_number x (y ∷ ys) ≡ y ∷ ys)) ⊎ ((y < x) × (with_number x (y ∷ ys) ≡ y ∷ with_number x ys)))
    by (yes lt) f = inl (lt, rw (test_is x y lt) refl)
    by (no nlt) (inl e) = inr (inl (e, rw (test_is_not x y (omega arith), eq-eqb x y e) refl))
    by (no nlt) (inr ne) = inr (inr (omega arith, rw (test_is_not x y (omega arith), ne_eqb x y ne) refl))

pub with_over : (x z : ℕ) (ys : List ℕ) → Among z (with_number x ys) → (z ≡ x) ⊎ Among z ys
with_over x z [] h = h
with_over x z (y ∷ ys) h = by (with_cases x y ys) (with_over x z ys)
  where
    by : ((x < y) × (with_number x (y ∷ ys) ≡ x ∷ y ∷ ys)) ⊎ (((x ≡ y) × (with_number x (y ∷ ys) ≡ y ∷ ys)) ⊎ ((y < x) × (with_number x (y ∷ ys) ≡ y ∷ with_number x ys))) → (Among z (with_number x ys) → (z ≡ x) ⊎ Among z ys) → (z ≡ x) ⊎ Among z (y ∷ ys)
    by (inl k) rest = subst (Among z) k.1 h
    by (inr (inl k)) rest = inr (subst (Among z) k.1 h)
    by (inr (inr k)) rest = ⊎_elim (λ (e : z ≡ y). inr (inl e)) (λ g. ⊎_elim (λ (e : z ≡ x). inl e) (λ l. inr (inr l)) (rest g)) (subst (Among z) k.1 h)

pub with_back : (x z : ℕ) (ys : List ℕ) → (z ≡ x) ⊎ Among z ys → Among z (with_number x ys)
with_back x z [] h = h
with_back x z (y ∷ ys) h = by (with_cases x y ys) (with_back x z ys)
  where
    by : ((x < y) × (with_number x (y ∷ ys) ≡ x ∷ y ∷ ys)) ⊎ (((x ≡ y) × (with_number x (y ∷ ys) ≡ y ∷ ys)) ⊎ ((y < x) × (with_number x (y ∷ ys) ≡ y ∷ with_number x ys))) → ((z ≡ x) ⊎ Among z ys → Among z (with_number x ys)) → Among z (with_number x (y ∷ ys))
    by (inl k) rest = subst (Among z) (sym k.1) h
    by (inr (inl k)) rest = subst (Among z) (sym k.1) (⊎_elim (λ (e : z ≡ x). inl (e ∙ k.0)) (λ g. g) h)
    by (inr (inr k)) rest = subst (Among z) (sym k.1) (⊎_elim (λ (e : z ≡ x). inr (rest (inl e))) (λ (g : Among z (y ∷ ys)). ⊎_elim (λ (e : z ≡ y). inl e) (λ l. inr (rest (inr l))) g) h)

pub with_rising : (x : ℕ) (ys : List ℕ) → IsRising ys → IsRising (with_number x ys)
with_rising x [] a = (tt, tt)
with_rising x (y ∷ ys) a = by (with_cases x y ys) (with_rising x ys a.1)
  where
    by : ((x < y) × (with_number x (y ∷ ys) ≡ x ∷ y ∷ ys)) ⊎ (((x ≡ y) × (with_number x (y ∷ ys) ≡ y ∷ ys)) ⊎ ((y < x) × (with_number x (y ∷ ys) ≡ y ∷ with_number x ys))) → IsRising (with_number x ys) → IsRising (with_number x (y ∷ ys))
    by (inl k) rest = let lt = k.0 in subst IsRising (sym k.1) ((lt, below_each_from x ys (λ z h. omega (arith, lt, below_each_sound y z ys a.0 h))), a)
    by (inr (inl k)) rest = subst IsRising (sym k.1) a
    by (inr (inr k)) rest = let lt = k.0 in subst IsRising (sym k.1) (below_each_from y (with_number x ys) (λ z h. ⊎_elim (λ (e : z ≡ x). rw e lt) (λ g. below_each_sound y z ys a.0 g) (with_over x z ys h)), rest)

pub without_over : (x z : ℕ) (ys : List ℕ) → Among z (without_number x ys) → Among z ys × (z ≢ x)
without_over x z ys h = let (k, t) = filter_sound (λ y. not (nat_eq y x)) z ys h in (k, λ e. true≢false (sym t ∙ ap not (eq-eqb z x e)))

pub without_back : (x z : ℕ) (ys : List ℕ) → Among z ys → z ≢ x → Among z (without_number x ys)
without_back x z ys h ne = filter_complete (λ y. not (nat_eq y x)) z ys h (ap not (ne_eqb z x ne))

pub without_rising : (x : ℕ) (ys : List ℕ) → IsRising ys → IsRising (without_number x ys)
without_rising x ys a = rising_filter (λ y. not (nat_eq y x)) ys a

-- a number that is there, or is not, and one that comes back, or goes again
pub with_present : (x : ℕ) (ys : List ℕ) → IsRising ys → Among x ys → with_number x ys ≡ ys
with_present x ys a h = rising_unique (with_number x ys) ys (with_rising x ys a) a (λ z k. ⊎_elim (λ (e : z ≡ x). subst (λ w. Among w ys) (sym e) h) (λ g. g) (with_over x z ys k)) (λ z k. with_back x z ys (inr k))

pub without_absent : (x : ℕ) (ys : List ℕ) → IsRising ys → ¬ Among x ys → without_number x ys ≡ ys
without_absent x ys a nh = rising_unique (without_number x ys) ys (without_rising x ys a) a (λ z k. (without_over x z ys k).0) (λ z k. without_back x z ys k (λ e. nh (subst (λ w. Among w ys) e k)))

pub with_after_without : (x : ℕ) (ys : List ℕ) → IsRising ys → Among x ys → with_number x (without_number x ys) ≡ ys
with_after_without x ys a h = rising_unique (with_number x (without_number x ys)) ys (with_rising x (without_number x ys) (without_rising x ys a)) a
    (λ z k. ⊎_elim (λ (e : z ≡ x). subst (λ w. Among w ys) (sym e) h) (λ g. (without_over x z ys g).0) (with_over x z (without_number x ys) k))
    (λ z k. with_back x z (without_number x ys) (⊎_elim (λ (e : z ≡ x). inl e) (λ ne. inr (without_back x z ys k ne)) (number_same z x)))

pub without_after_with : (x : ℕ) (ys : List ℕ) → IsRising ys → ¬ Among x ys → without_number x (with_number x ys) ≡ ys
without_after_with x ys a nh = rising_unique (without_number x (with_number x ys)) ys (without_rising x (with_number x ys) (with_rising x ys a)) a
    (λ z k. let (g, ne) = without_over x z (with_number x ys) k in ⊎_elim (λ (e : z ≡ x). absurd (ne e)) (λ l. l) (with_over x z ys g))
    (λ z k. without_back x z (with_number x ys) (with_back x z ys (inr k)) (λ e. nh (subst (λ w. Among w ys) e k)))

pub with_length : (x : ℕ) (ys : List ℕ) → ¬ Among x ys → length (with_number x ys) ≡ suc (length ys)
with_length x [] nh = refl
with_length x (y ∷ ys) nh = by (with_cases x y ys) (with_length x ys (λ h. nh (inr h)))
  where
    by : ((x < y) × (with_number x (y ∷ ys) ≡ x ∷ y ∷ ys)) ⊎ (((x ≡ y) × (with_number x (y ∷ ys) ≡ y ∷ ys)) ⊎ ((y < x) × (with_number x (y ∷ ys) ≡ y ∷ with_number x ys))) → length (with_number x ys) ≡ suc (length ys) → length (with_number x (y ∷ ys)) ≡ suc (length (y ∷ ys))
    by (inl k) rest = ap length k.1
    by (inr (inl k)) rest = absurd (nh (inl k.0))
    by (inr (inr k)) rest = ap length k.1 ∙ ap suc rest

pub without_length : (x : ℕ) (ys : List ℕ) → IsRising ys → Among x ys → length ys ≡ suc (length (without_number x ys))
without_length x ys a h = sym (ap length (with_after_without x ys a h)) ∙ with_length x (without_number x ys) (λ k. (without_over x x ys k).1 refl)

-- Matrices with another list for a column.

abbrev pub changed : Matrix → ℕ → List ℕ → Matrix
changed a c xs = record { rows = a.rows; columns = set a.columns c xs }

pub changed_cols : (a : Matrix) (c : ℕ) (xs : List ℕ) → cols (changed a c xs) ≡ cols a
changed_cols a c xs = length-set a.columns c xs

pub changed_here : (a : Matrix) (c : ℕ) (xs : List ℕ) → c < cols a → column (changed a c xs) c ≡ xs
changed_here a c xs lt = get_or-set_same a.columns c xs [] lt

pub changed_there : (a : Matrix) (c d : ℕ) (xs : List ℕ) → d ≢ c → column (changed a c xs) d ≡ column a d
changed_there a c d xs ne = get_or-set_other a.columns c d xs [] ne

-- a column is the other list or the old one
pub changed_either : (a : Matrix) (c d : ℕ) (xs : List ℕ) → ((d ≡ c) × (c < cols a) × (column (changed a c xs) d ≡ xs)) ⊎ (((d ≢ c) ⊎ (cols a ≤ c)) × (column (changed a c xs) d ≡ column a d))
changed_either a c d xs = by (number_same d c) (dec_lt c (cols a))
  where
    by : (d ≡ c) ⊎ (d ≢ c) → Dec (c < cols a) → ((d ≡ c) × (c < cols a) × (column (changed a c xs) d ≡ xs)) ⊎ (((d ≢ c) ⊎ (cols a ≤ c)) × (column (changed a c xs) d ≡ column a d))
    by (inr ne) l = inr (inl ne, changed_there a c d xs ne)
    by (inl e) (yes lt) = inl (e, lt, ap (column (changed a c xs)) e ∙ changed_here a c xs lt)
    by (inl e) (no nlt) = let le : cols a ≤ c = omega arith in inr (inr le, ap (λ (cs : List (List ℕ)). column (record { rows = a.rows; columns = cs }) d) (set_past a.columns c xs le))

pub changed_same : (a : Matrix) (c : ℕ) (xs : List ℕ) → xs ≡ column a c → changed a c xs ≡ a
changed_same a c xs e = λ i. record { rows = a.rows; columns = (ap (set a.columns c) e ∙ set-get_or a.columns c []) i }

changed_again : (a : Matrix) (c : ℕ) (xs ys : List ℕ) → ys ≡ column a c → changed (changed a c xs) c ys ≡ a
changed_again a c xs ys e = (λ i. record { rows = a.rows; columns = set-set a.columns c xs ys i }) ∙ changed_same a c ys e

-- Entries.

pub with_place_over : (a : Matrix) (p : Place) (r c : ℕ) → IsEntry (with_place a p) r c → ((r, c) ≡ p) ⊎ IsEntry a r c
with_place_over a p r c e = by (changed_either a p.1 c (with_number p.0 (column a p.1)))
  where
    by : ((c ≡ p.1) × (p.1 < cols a) × (column (with_place a p) c ≡ with_number p.0 (column a p.1))) ⊎ (((c ≢ p.1) ⊎ (cols a ≤ p.1)) × (column (with_place a p) c ≡ column a c)) → ((r, c) ≡ p) ⊎ IsEntry a r c
    by (inl k) = ⊎_elim (λ (f : r ≡ p.0). inl (λ i. (f i, k.0 i))) (λ g. inr (e.0, subst (λ d. Among r (column a d)) (sym k.0) g)) (with_over p.0 r (column a p.1) (subst (Among r) k.2 e.1))
    by (inr k) = inr (e.0, subst (Among r) k.1 e.1)

pub with_place_kept : (a : Matrix) (p : Place) (r c : ℕ) → IsEntry a r c → IsEntry (with_place a p) r c
with_place_kept a p r c e = by (changed_either a p.1 c (with_number p.0 (column a p.1)))
  where
    by : ((c ≡ p.1) × (p.1 < cols a) × (column (with_place a p) c ≡ with_number p.0 (column a p.1))) ⊎ (((c ≢ p.1) ⊎ (cols a ≤ p.1)) × (column (with_place a p) c ≡ column a c)) → IsEntry (with_place a p) r c
    by (inl k) = (e.0, subst (Among r) (sym k.2) (with_back p.0 r (column a p.1) (inr (subst (λ d. Among r (column a d)) k.0 e.1))))
    by (inr k) = (e.0, subst (Among r) (sym k.1) e.1)

pub with_place_new : (a : Matrix) (p : Place) → p.0 < a.rows → p.1 < cols a → IsEntry (with_place a p) p.0 p.1
with_place_new a p row col = (row, subst (Among p.0) (sym (changed_here a p.1 (with_number p.0 (column a p.1)) col)) (with_back p.0 p.0 (column a p.1) (inl refl)))

pub with_place_entries : (a : Matrix) (p : Place) (r c : ℕ) → p.0 < a.rows → p.1 < cols a → IsEntry (with_place a p) r c ↔ (((r, c) ≡ p) ⊎ IsEntry a r c)
with_place_entries a p r c row col = (with_place_over a p r c, λ h. ⊎_elim (λ (e : (r, c) ≡ p). subst (λ (q : Place). IsEntry (with_place a p) q.0 q.1) (sym e) (with_place_new a p row col)) (λ k. with_place_kept a p r c k) h)

pub without_place_over : (a : Matrix) (p : Place) (r c : ℕ) → IsEntry (without_place a p) r c → IsEntry a r c × ((r, c) ≢ p)
without_place_over a p r c e = by (changed_either a p.1 c (without_number p.0 (column a p.1)))
  where
    by : ((c ≡ p.1) × (p.1 < cols a) × (column (without_place a p) c ≡ without_number p.0 (column a p.1))) ⊎ (((c ≢ p.1) ⊎ (cols a ≤ p.1)) × (column (without_place a p) c ≡ column a c)) → IsEntry a r c × ((r, c) ≢ p)
    by (inl k) = let (h, ne) = without_over p.0 r (column a p.1) (subst (Among r) k.2 e.1) in ((e.0, subst (λ d. Among r (column a d)) (sym k.0) h), λ f. ne (ap (λ (q : Place). q.0) f))
    by (inr k) = let f : IsEntry a r c = (e.0, subst (Among r) k.1 e.1) in (f, λ g. ⊎_elim (λ ne. ne (ap (λ (q : Place). q.1) g)) (λ le. omega (arith, le, entry_col a r c f, ap (λ (q : Place). q.1) g)) k.0)

pub without_place_back : (a : Matrix) (p : Place) (r c : ℕ) → IsEntry a r c → (r, c) ≢ p → IsEntry (without_place a p) r c
without_place_back a p r c e ne = by (changed_either a p.1 c (without_number p.0 (column a p.1)))
  where
    by : ((c ≡ p.1) × (p.1 < cols a) × (column (without_place a p) c ≡ without_number p.0 (column a p.1))) ⊎ (((c ≢ p.1) ⊎ (cols a ≤ p.1)) × (column (without_place a p) c ≡ column a c)) → IsEntry (without_place a p) r c
    by (inl k) = (e.0, subst (Among r) (sym k.2) (without_back p.0 r (column a p.1) (subst (λ d. Among r (column a d)) k.0 e.1) (λ f. ne (λ i. (f i, k.0 i)))))
    by (inr k) = (e.0, subst (Among r) (sym k.1) e.1)

pub without_place_entries : (a : Matrix) (p : Place) (r c : ℕ) → IsEntry (without_place a p) r c ↔ (IsEntry a r c × ((r, c) ≢ p))
without_place_entries a p r c = (without_place_over a p r c, λ h. without_place_back a p r c h.0 h.1)

-- Lists of the columns.

-- a rising list of rows in range is the list of its column's entries
lists_from : (a : Matrix) (c : ℕ) → IsRising (column a c) → ((r : ℕ) → Among r (column a c) → r < a.rows) → Lists (λ r. IsEntry a r c) (column a c)
lists_from a c rising below = record { rising = rising; sound = λ r h. (below r h, h); complete = λ r e. e.1 }

pub with_lists : (a : Matrix) (p : Place) (c : ℕ) → p.0 < a.rows → ((c : ℕ) → Lists (λ r. IsEntry a r c) (column a c)) → Lists (λ r. IsEntry (with_place a p) r c) (column (with_place a p) c)
with_lists a p c row l = by (changed_either a p.1 c (with_number p.0 (column a p.1)))
  where
    by : ((c ≡ p.1) × (p.1 < cols a) × (column (with_place a p) c ≡ with_number p.0 (column a p.1))) ⊎ (((c ≢ p.1) ⊎ (cols a ≤ p.1)) × (column (with_place a p) c ≡ column a c)) → Lists (λ r. IsEntry (with_place a p) r c) (column (with_place a p) c)
    by (inl k) = lists_from (with_place a p) c (subst IsRising (sym k.2) (with_rising p.0 (column a p.1) (l p.1).rising)) (λ r h. ⊎_elim (λ (e : r ≡ p.0). rw e row) (λ g. ((l p.1).sound r g).0) (with_over p.0 r (column a p.1) (subst (Among r) k.2 h)))
    by (inr k) = lists_from (with_place a p) c (subst IsRising (sym k.1) (l c).rising) (λ r h. ((l c).sound r (subst (Among r) k.1 h)).0)

pub without_lists : (a : Matrix) (p : Place) (c : ℕ) → ((c : ℕ) → Lists (λ r. IsEntry a r c) (column a c)) → Lists (λ r. IsEntry (without_place a p) r c) (column (without_place a p) c)
without_lists a p c l = by (changed_either a p.1 c (without_number p.0 (column a p.1)))
  where
    by : ((c ≡ p.1) × (p.1 < cols a) × (column (without_place a p) c ≡ without_number p.0 (column a p.1))) ⊎ (((c ≢ p.1) ⊎ (cols a ≤ p.1)) × (column (without_place a p) c ≡ column a c)) → Lists (λ r. IsEntry (without_place a p) r c) (column (without_place a p) c)
    by (inl k) = lists_from (without_place a p) c (subst IsRising (sym k.2) (without_rising p.0 (column a p.1) (l p.1).rising)) (λ r h. ((l p.1).sound r (without_over p.0 r (column a p.1) (subst (Among r) k.2 h)).0).0)
    by (inr k) = lists_from (without_place a p) c (subst IsRising (sym k.1) (l c).rising) (λ r h. ((l c).sound r (subst (Among r) k.1 h)).0)

-- Places.

pub with_places : (rows cols : ℕ) (ps : List Place) (a : Matrix) (p : Place) → HasPlaces rows cols ps a → p.0 < rows → p.1 < cols → HasPlaces rows cols (p ∷ ps) (with_place a p)
with_places rows cols ps a p h row col =
    let in_row : p.0 < a.rows = rw h.rows_are row in
    let in_col : p.1 < length a.columns = rw h.cols_are col in
    record {
      rows_are = h.rows_are;
      cols_are = changed_cols a p.1 (with_number p.0 (column a p.1)) ∙ h.cols_are;
      entries = λ r c. (
        λ e. ⊎_elim (λ (f : (r, c) ≡ p). inl f) (λ k. inr ((h.entries r c).0 k)) (with_place_over a p r c e),
        λ k. (with_place_entries a p r c in_row in_col).1 (⊎_elim (λ (f : (r, c) ≡ p). inl f) (λ g. inr ((h.entries r c).1 g)) k),
      );
      columns = λ c. with_lists a p c in_row h.columns;
    }

place_test : (p q : Place) → (not (nat_eq q.0 p.0 && nat_eq q.1 p.1) ≡ true) ↔ (q ≢ p)
place_test p q = by (number_same q.0 p.0) (number_same q.1 p.1)
  where
    by : (q.0 ≡ p.0) ⊎ (q.0 ≢ p.0) → (q.1 ≡ p.1) ⊎ (q.1 ≢ p.1) → (not (nat_eq q.0 p.0 && nat_eq q.1 p.1) ≡ true) ↔ (q ≢ p)
    by (inl e) (inl f) = rw (eq-eqb q.0 p.0 e, eq-eqb q.1 p.1 f) (λ (g : false ≡ true). absurd (true≢false (sym g)), λ ne. absurd (ne (λ i. (e i, f i))))
    by (inl e) (inr nf) = rw (eq-eqb q.0 p.0 e, ne_eqb q.1 p.1 nf) (λ (g : true ≡ true) h. nf (ap (λ (z : Place). z.1) h), λ ne. refl)
    by (inr ne) f = rw (ne_eqb q.0 p.0 ne) (λ (g : true ≡ true) h. ne (ap (λ (z : Place). z.0) h), λ nh. refl)

pub without_places : (rows cols : ℕ) (ps : List Place) (a : Matrix) (p : Place) → HasPlaces rows cols ps a → HasPlaces rows cols (places_after ps (Clear p)) (without_place a p)
without_places rows cols ps a p h = record {
  rows_are = h.rows_are;
  cols_are = changed_cols a p.1 (without_number p.0 (column a p.1)) ∙ h.cols_are;
  entries = λ r c. (
    λ e. let (k, ne) = without_place_over a p r c e in filter_complete (λ (q : Place). not (nat_eq q.0 p.0 && nat_eq q.1 p.1)) (r, c) ps ((h.entries r c).0 k) ((place_test p (r, c)).1 ne),
    λ k. let (g, t) = filter_sound (λ (q : Place). not (nat_eq q.0 p.0 && nat_eq q.1 p.1)) (r, c) ps k in without_place_back a p r c ((h.entries r c).1 g) ((place_test p (r, c)).0 t),
  );
  columns = λ c. without_lists a p c h.columns;
}

pub edited_has_places : (rows cols : ℕ) (ps : List Place) (a : Matrix) (es : List Edit) → HasPlaces rows cols ps a → AreWithin rows cols es → HasPlaces rows cols (edited_places ps es) (edited a es)
edited_has_places rows cols ps a [] h w = h
edited_has_places rows cols ps a (Set p ∷ es) h w = edited_has_places rows cols (p ∷ ps) (with_place a p) es (with_places rows cols ps a p h w.0.0 w.0.1) w.1
edited_has_places rows cols ps a (Clear p ∷ es) h w = edited_has_places rows cols (places_after ps (Clear p)) (without_place a p) es (without_places rows cols ps a p h) w.1

-- How many entries there are.

changed_sum : (cs : List (List ℕ)) (c : ℕ) (xs : List ℕ) → c < length cs → sum_by length (set cs c xs) + length (get_or cs c []) ≡ sum_by length cs + length xs
changed_sum [] c xs lt = absurd (omega arith)
changed_sum (y ∷ ys) zero xs lt =
    let e : sum_by length (set (y ∷ ys) zero xs) ≡ length xs + sum_by length ys = sum_by-cons length xs ys in
    let f : sum_by length (y ∷ ys) ≡ length y + sum_by length ys = sum_by-cons length y ys in
    let g : length (get_or (y ∷ ys) zero []) ≡ length y = refl in
    omega (arith, e, f, g)
changed_sum (y ∷ ys) (suc c) xs lt =
    let e : sum_by length (set (y ∷ ys) (suc c) xs) ≡ length y + sum_by length (set ys c xs) = sum_by-cons length y (set ys c xs) in
    let f : sum_by length (y ∷ ys) ≡ length y + sum_by length ys = sum_by-cons length y ys in
    let rest : sum_by length (set ys c xs) + length (get_or ys c []) ≡ sum_by length ys + length xs = changed_sum ys c xs (omega arith) in
    let g : length (get_or (y ∷ ys) (suc c) []) ≡ length (get_or ys c []) = refl in
    omega (arith, e, f, rest, g)

pub changed_count : (a : Matrix) (c : ℕ) (xs : List ℕ) → c < cols a → entry_count (changed a c xs) + length (column a c) ≡ entry_count a + length xs
changed_count a c xs lt = changed_sum a.columns c xs lt

pub with_count : (a : Matrix) (p : Place) → ¬ IsEntry a p.0 p.1 → p.0 < a.rows → p.1 < cols a → entry_count (with_place a p) ≡ suc (entry_count a)
with_count a p ne row col = omega (arith, changed_count a p.1 (with_number p.0 (column a p.1)) col, with_length p.0 (column a p.1) (λ h. ne (row, h)))

pub without_count : (a : Matrix) (p : Place) → Lists (λ r. IsEntry a r p.1) (column a p.1) → IsEntry a p.0 p.1 → entry_count a ≡ suc (entry_count (without_place a p))
without_count a p l e = omega (arith, changed_count a p.1 (without_number p.0 (column a p.1)) (entry_col a p.0 p.1 e), without_length p.0 (column a p.1) l.rising e.1)

-- Edits that change nothing, or are taken back.

pub with_again : (a : Matrix) (p : Place) → Lists (λ r. IsEntry a r p.1) (column a p.1) → IsEntry a p.0 p.1 → with_place a p ≡ a
with_again a p l e = changed_same a p.1 (with_number p.0 (column a p.1)) (with_present p.0 (column a p.1) l.rising e.1)

pub without_none : (a : Matrix) (p : Place) → Lists (λ r. IsEntry a r p.1) (column a p.1) → ¬ IsEntry a p.0 p.1 → without_place a p ≡ a
without_none a p l ne = changed_same a p.1 (without_number p.0 (column a p.1)) (without_absent p.0 (column a p.1) l.rising (λ h. ne (l.sound p.0 h)))

pub with_comes_back : (a : Matrix) (p : Place) → Lists (λ r. IsEntry a r p.1) (column a p.1) → IsEntry a p.0 p.1 → with_place (without_place a p) p ≡ a
with_comes_back a p l e = changed_again a p.1 (without_number p.0 (column a p.1)) (with_number p.0 (column (without_place a p) p.1))
    (ap (with_number p.0) (changed_here a p.1 (without_number p.0 (column a p.1)) (entry_col a p.0 p.1 e)) ∙ with_after_without p.0 (column a p.1) l.rising e.1)

pub without_goes_back : (a : Matrix) (p : Place) → Lists (λ r. IsEntry a r p.1) (column a p.1) → ¬ IsEntry a p.0 p.1 → p.1 < cols a → without_place (with_place a p) p ≡ a
without_goes_back a p l ne col = changed_again a p.1 (with_number p.0 (column a p.1)) (without_number p.0 (column (with_place a p) p.1))
    (ap (without_number p.0) (changed_here a p.1 (with_number p.0 (column a p.1)) col) ∙ without_after_with p.0 (column a p.1) l.rising (λ h. ne (l.sound p.0 h)))

-- Matchings.

moved : (a b : Matrix) (m : List Place) → IsMatching a m → ((r c : ℕ) → Among (r, c) m → IsEntry a r c → IsEntry b r c) → IsMatching b m
moved a b m k over = record { entries = λ r c h. over r c h (k.entries r c h); rows_differ = k.rows_differ; cols_differ = k.cols_differ }

-- where one place alone may be an entry of b and not of a, a matching of b has at most one pair more than a maximum one of a
pub one_more : (a b : Matrix) (p : Place) (m n : List Place) → ((r c : ℕ) → IsEntry b r c → ((r, c) ≡ p) ⊎ IsEntry a r c) → IsMaximum a m → IsMatching b n → length n ≤ suc (length m)
one_more a b p m n over max k = by (is_among place_same p n)
  where
    by : Among p n ⊎ (¬ Among p n) → length n ≤ suc (length m)
    by (inl h) =
        let (left, d) = taken p n h in
        let rest = moved b a left (drops_pair b d k) (λ r c g e. ⊎_elim (λ (f : (r, c) ≡ p). absurd (drops_gone d (distinct_pairs n k.rows_differ) (subst (λ q. Among q left) f g))) (λ l. l) (over r c e)) in
        omega (arith, max.longest left rest, drops_length d)
    by (inr nh) =
        let same = moved b a n k (λ r c g e. ⊎_elim (λ (f : (r, c) ≡ p). absurd (nh (subst (λ q. Among q n) f g))) (λ l. l) (over r c e)) in
        omega (arith, max.longest n same)

pub without_or_there : (a : Matrix) (p : Place) (r c : ℕ) → IsEntry a r c → ((r, c) ≡ p) ⊎ IsEntry (without_place a p) r c
without_or_there a p r c e = ⊎_elim (λ (f : (r, c) ≡ p). inl f) (λ ne. inr (without_place_back a p r c e ne)) (place_same (r, c) p)

pub longer_is_maximum : (a : Matrix) (p : Place) (m n : List Place) → IsMaximum a m → IsMatching (with_place a p) n → length n ≡ suc (length m) → IsMaximum (with_place a p) n
longer_is_maximum a p m n max k e = record { matching = k; longest = λ o l. omega (arith, e, one_more a (with_place a p) p m o (with_place_over a p) max l) }

pub kept_with : (a : Matrix) (p : Place) (m : List Place) → IsMatching a m → IsMatching (with_place a p) m
kept_with a p m k = moved a (with_place a p) m k (λ r c h e. with_place_kept a p r c e)

pub pair_is_maximum : (a : Matrix) (p : Place) (m : List Place) → IsMaximum a m → p.0 < a.rows → p.1 < cols a → ¬ Among p.0 (rows_of m) → ¬ Among p.1 (cols_of m) → IsMaximum (with_place a p) (p ∷ m)
pair_is_maximum a p m max row col nr nc = longer_is_maximum a p m (p ∷ m) max (adds_pair (with_place a p) p.0 p.1 m (kept_with a p m max.matching) (with_place_new a p row col) nr nc) refl

pub kept_without : (a : Matrix) (p : Place) (m : List Place) → IsMatching a m → ¬ Among p m → IsMatching (without_place a p) m
kept_without a p m k nh = moved a (without_place a p) m k (λ r c h e. without_place_back a p r c e (λ f. nh (subst (λ q. Among q m) f h)))

pub had_before : (a : Matrix) (p : Place) (n : List Place) → IsMatching (without_place a p) n → IsMatching a n
had_before a p n k = moved (without_place a p) a n k (λ r c h e. (without_place_over a p r c e).0)

pub as_long_is_maximum : (a : Matrix) (p : Place) (m n : List Place) → IsMaximum a m → IsMatching (without_place a p) n → length n ≡ length m → IsMaximum (without_place a p) n
as_long_is_maximum a p m n max k e = record { matching = k; longest = λ o l. omega (arith, e, max.longest o (had_before a p o l)) }

pub kept_is_maximum : (a : Matrix) (p : Place) (m : List Place) → IsMaximum a m → ¬ Among p m → IsMaximum (without_place a p) m
kept_is_maximum a p m max nh = as_long_is_maximum a p m m max (kept_without a p m max.matching nh) refl

pub with_rank : (a : Matrix) (p : Place) (k l : ℕ) → IsRank a k → IsRank (with_place a p) l → (k ≤ l) × (l ≤ suc k)
with_rank a p k l (m, max, e) (n, most, f) = (
  omega (arith, e, f, most.longest m (kept_with a p m max.matching)),
  omega (arith, e, f, one_more a (with_place a p) p m n (with_place_over a p) max most.matching),
)

pub without_rank : (a : Matrix) (p : Place) (k l : ℕ) → IsRank a k → IsRank (without_place a p) l → (l ≤ k) × (k ≤ suc l)
without_rank a p k l (m, max, e) (n, most, f) = (
  omega (arith, e, f, max.longest n (had_before a p n most.matching)),
  omega (arith, e, f, one_more (without_place a p) a p n m (without_or_there a p) most max.matching),
)
