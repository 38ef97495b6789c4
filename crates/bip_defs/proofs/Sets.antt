-- Lists that stand for sets: members, what is left without one of them, pigeonholes, rising lists.
use Rattle.std.proofs.Common.{◌≡◌, ◌≢◌, ◌⊎◌, ◌↔◌, ◌∙◌, ℕ, zero, suc, ◌+◌, ◌<◌, ◌≤◌, Bool, true, false, cond, not, List, [], ◌∷◌, ◌++◌, map, filter, length, nat_eq, nat_lt, refl, sym, ap, subst, inl, inr, ⊎_elim, arith, zero-le, suc-le-suc, le_of_suc-le-suc, lt_irrefl, ap₂, not-suc-le-zero, ◌||◌, Contains, slice_index_or, eq-eqb, eqb-true, true≢false, take, drop, set, get_or, get_or-set_same, get_or-set_other}
use Rattle.std.proofs.Math.Decide.{dec_lt, ℕ_discrete}
use Rattle.std.proofs.lemmas.Bool.Decides.{nat_tests}
use Rattle.std.proofs.lemmas.List.{get_or-map, get_or_past, length-map}
use Rattle.std.proofs.Math.Seq.{take-append_seam}
use Rattle.std.proofs.lemmas.List.Filters.{length-filter_both}
use Rattle.std.specs.List.{list_any}
use Rattle.bip_defs.specs.Lists.{Among, AreDistinct, IsBelowEach, IsMarked, IsRising, Lists}
use Rattle.bip_defs.specs.Matching.{cols_of, rows_of}
use Rattle.bip_defs.specs.Matrix.{IsEntry, Matrix, Place, column, cols, neighbours, touches, upto, upto_from}

-- Members.

pub among_map : {X Y : Type 0} (f : X → Y) (x : X) (xs : List X) → Among x xs → Among (f x) (map f xs)
among_map f x [] h = elim h [ ]
among_map f x (y ∷ ys) (inl e) = inl (ap f e)
among_map f x (y ∷ ys) (inr h) = inr (among_map f x ys h)

pub among_map_back : {X Y : Type 0} (f : X → Y) (y : Y) (xs : List X) → Among y (map f xs) → (x : X) × Among x xs × (f x ≡ y)
among_map_back f y [] h = elim h [ ]
among_map_back f y (x ∷ xs) (inl e) = (x, inl refl, sym e)
among_map_back f y (x ∷ xs) (inr h) = let (z, k, e) = among_map_back f y xs h in (z, inr k, e)

pub among_left : {X : Type 0} (x : X) (xs ys : List X) → Among x xs → Among x (xs ++ ys)
among_left x [] ys h = elim h [ ]
among_left x (y ∷ xs) ys (inl e) = inl e
among_left x (y ∷ xs) ys (inr h) = inr (among_left x xs ys h)

pub among_right : {X : Type 0} (x : X) (xs ys : List X) → Among x ys → Among x (xs ++ ys)
among_right x [] ys h = h
among_right x (y ∷ xs) ys h = inr (among_right x xs ys h)

pub among_either : {X : Type 0} (x : X) (xs ys : List X) → Among x (xs ++ ys) → Among x xs ⊎ Among x ys
among_either x [] ys h = inr h
among_either x (y ∷ xs) ys (inl e) = inl (inl e)
among_either x (y ∷ xs) ys (inr h) = ⊎_elim (λ g. inl (inr g)) (λ g. inr g) (among_either x xs ys h)

-- the last of a list that has grown by one is the new one, or an old one
pub among_last : {X : Type 0} (x y : X) (xs : List X) → Among x (xs ++ y ∷ []) → Among x xs ⊎ (x ≡ y)
among_last x y xs h = ⊎_elim (λ g. inl g) (λ (g : Among x (y ∷ [])). elim g [ inl e ↦ inr e | inr k ↦ absurd k ]) (among_either x xs (y ∷ []) h)

-- one more at the end, which was not there
pub distinct_last : {X : Type 0} (xs : List X) (x : X) → AreDistinct xs → ¬ Among x xs → AreDistinct (xs ++ x ∷ [])
distinct_last [] x a new = (λ h. h, tt)
distinct_last (y ∷ xs) x a new = (λ h. ⊎_elim a.0 (λ (e : y ≡ x). new (inl (sym e))) (among_last y x xs h), distinct_last xs x a.1 (λ h. new (inr h)))

pub number_same : (x y : ℕ) → (x ≡ y) ⊎ (x ≢ y)
number_same x y = elim (ℕ_discrete x y) [ yes e ↦ inl e | no ne ↦ inr ne ]

pub test_is : (x y : ℕ) → x < y → nat_lt x y ≡ true
test_is x y lt = grind (arith, nat_tests)

pub test_is_not : (x y : ℕ) → y ≤ x → nat_lt x y ≡ false
test_is_not x y le = grind (arith, nat_tests)

pub place_same : (p q : Place) → (p ≡ q) ⊎ (p ≢ q)
place_same p q = by (number_same p.0 q.0) (number_same p.1 q.1)
  where
    by : (p.0 ≡ q.0) ⊎ (p.0 ≢ q.0) → (p.1 ≡ q.1) ⊎ (p.1 ≢ q.1) → (p ≡ q) ⊎ (p ≢ q)
    by (inl e) (inl f) = inl (λ i. (e i, f i))
    by (inl e) (inr ne) = inr (λ g. ne (ap (λ (z : Place). z.1) g))
    by (inr ne) f = inr (λ g. ne (ap (λ (z : Place). z.0) g))

pub is_among : {X : Type 0} (same : (x y : X) → (x ≡ y) ⊎ (x ≢ y)) (x : X) (xs : List X) → Among x xs ⊎ (¬ Among x xs)
is_among same x [] = inr (λ h. h)
is_among same x (y ∷ ys) = by (same x y) (is_among same x ys)
  where
    by : (x ≡ y) ⊎ (x ≢ y) → Among x ys ⊎ (¬ Among x ys) → Among x (y ∷ ys) ⊎ (¬ Among x (y ∷ ys))
    by (inl e) g = inl (inl e)
    by (inr ne) (inl h) = inl (inr h)
    by (inr ne) (inr nh) = inr (λ (k : Among x (y ∷ ys)). ⊎_elim ne nh k)

-- a number is on the list or not
pub number_among : (x : ℕ) (xs : List ℕ) → Among x xs ⊎ (¬ Among x xs)
number_among x xs = is_among number_same x xs

-- Marks.

pub marked_more : (marks : List Bool) (d c : ℕ) → d < length marks → IsMarked marks c → IsMarked (set marks d true) c
marked_more marks d c lt h = ⊎_elim (λ (e : c ≡ d). ap (λ x. get_or (set marks d true) x false) e ∙ get_or-set_same marks d true false lt) (λ ne. get_or-set_other marks d c true false ne ∙ h) (number_same c d)

-- Prefixes.

pub among_take : {X : Type 0} (n : ℕ) (x : X) (xs : List X) → Among x (take n xs) → Among x xs
among_take zero x xs h = elim h [ ]
among_take (suc n) x [] h = elim h [ ]
among_take (suc n) x (y ∷ xs) (inl e) = inl e
among_take (suc n) x (y ∷ xs) (inr h) = inr (among_take n x xs h)

-- a list that was written over another one
pub written_over : {X : Type 0} (new old : List X) (n : ℕ) → length new ≡ length old → n ≡ length old → take n (new ++ drop (length new) old) ≡ new
written_over new old n same all = ap (λ k. take k (new ++ drop (length new) old)) (all ∙ sym same) ∙ take-append_seam new (drop (length new) old)

-- What std's words say of members.

pub contains_from_among : {X : Type 0} (x : X) (xs : List X) → Among x xs → Contains xs x
contains_from_among x [] h = elim h [ ]
contains_from_among x (y ∷ ys) (inl e) = (0, omega arith, sym e)
contains_from_among x (y ∷ ys) (inr h) = let (k, lt, e) = contains_from_among x ys h in (suc k, suc-le-suc lt, e)

pub among_from_contains : {X : Type 0} (x : X) (xs : List X) → Contains xs x → Among x xs
among_from_contains {X = X} x xs h = at xs h.0 h.1 h.2
  where
    at : (ys : List X) (k : ℕ) → k < length ys → slice_index_or ys k x ≡ x → Among x ys
    at [] k lt e = absurd (not-suc-le-zero lt)
    at (y ∷ ys) zero lt e = inl (sym e)
    at (y ∷ ys) (suc k) lt e = inr (at ys k (le_of_suc-le-suc lt) e)

-- the element at a place
pub among_at : {X : Type 0} (xs : List X) (k : ℕ) (d : X) → k < length xs → Among (slice_index_or xs k d) xs
among_at [] k d lt = absurd (not-suc-le-zero lt)
among_at (x ∷ xs) zero d lt = inl refl
among_at (x ∷ xs) (suc k) d lt = inr (among_at xs k d (le_of_suc-le-suc lt))

-- it is not among those before it
pub apart_from_front : {X : Type 0} (n : ℕ) (e : X) (xs : List X) → n < length xs → AreDistinct xs → ¬ Among (slice_index_or xs n e) (take n xs)
apart_from_front n e [] lt d h = absurd (omega arith)
apart_from_front zero e (x ∷ xs) lt d h = elim h [ ]
apart_from_front (suc n) e (x ∷ xs) lt d (inl f) = d.0 (subst (λ y. Among y xs) f (among_at xs n e (omega arith)))
apart_from_front (suc n) e (x ∷ xs) lt d (inr h) = apart_from_front n e xs (omega arith) d.1 h

-- the number of what was read at a place
pub number_at : {X : Type 0} (f : X → ℕ) (xs : List X) (k : ℕ) (x : X) → x ≡ slice_index_or xs k x → k < length xs → slice_index_or (map f xs) k 0 ≡ f x
number_at f xs k x e lt = get_or-map f xs k x 0 lt ∙ ap f (sym e)

-- the place of an element
pub place_among : {X : Type 0} (x d : X) (xs : List X) → Among x xs → (k : ℕ) × (k < length xs) × (slice_index_or xs k d ≡ x)
place_among x d [] h = elim h [ ]
place_among x d (y ∷ ys) (inl e) = (0, omega arith, sym e)
place_among x d (y ∷ ys) (inr h) = let (k, lt, e) = place_among x d ys h in (suc k, suc-le-suc lt, e)

pub any_sound : {X : Type 0} (test : X → Bool) (xs : List X) → list_any test xs ≡ true → (x : X) × Among x xs × (test x ≡ true)
any_sound test [] e = absurd (true≢false (sym e))
any_sound {X = X} test (x ∷ xs) e = by (any_sound test xs) (test x) refl e
  where
    by : (list_any test xs ≡ true → (z : X) × Among z xs × (test z ≡ true)) → (b : Bool) → test x ≡ b → (b || list_any test xs) ≡ true → (z : X) × Among z (x ∷ xs) × (test z ≡ true)
    by more true g f = (x, inl refl, g)
    by more false g f = let (z, h, k) = more f in (z, inr h, k)

pub any_complete : {X : Type 0} (test : X → Bool) (x : X) (xs : List X) → Among x xs → test x ≡ true → list_any test xs ≡ true
any_complete test x [] h e = elim h [ ]
any_complete test x (y ∷ ys) (inl g) e = rw (← g, e) refl
any_complete test x (y ∷ ys) (inr h) e = by (test y) (any_complete test x ys h e)
  where
    by : (b : Bool) → list_any test ys ≡ true → (b || list_any test ys) ≡ true
    by true f = refl
    by false f = f

-- what a test that looks for a number says
pub among_test : (x : ℕ) (xs : List ℕ) → (list_any (nat_eq x) xs ≡ true) ↔ Among x xs
among_test x xs = (λ e. let (y, h, g) = any_sound (nat_eq x) xs e in subst (λ z. Among z xs) (sym (eqb-true x y g)) h, λ h. any_complete (nat_eq x) x xs h (eq-eqb x x refl))

pub filter_sound : {X : Type 0} (test : X → Bool) (x : X) (xs : List X) → Among x (filter test xs) → Among x xs × (test x ≡ true)
filter_sound test x [] h = elim h [ ]
filter_sound test x (y ∷ ys) h = by (filter_sound test x ys) (test y) refl h
  where
    by : (Among x (filter test ys) → Among x ys × (test x ≡ true)) → (b : Bool) → test y ≡ b → Among x (cond b (y ∷ filter test ys) (filter test ys)) → Among x (y ∷ ys) × (test x ≡ true)
    by more true e (inl g) = (inl g, ap test g ∙ e)
    by more true e (inr k) = (inr (more k).0, (more k).1)
    by more false e k = (inr (more k).0, (more k).1)

pub filter_complete : {X : Type 0} (test : X → Bool) (x : X) (xs : List X) → Among x xs → test x ≡ true → Among x (filter test xs)
filter_complete test x [] h e = elim h [ ]
filter_complete test x (y ∷ ys) (inl g) e = rw (← g, e) (inl refl)
filter_complete test x (y ∷ ys) (inr h) e = by (test y) (filter_complete test x ys h e)
  where
    by : (b : Bool) → Among x (filter test ys) → Among x (cond b (y ∷ filter test ys) (filter test ys))
    by true k = inr k
    by false k = k

pub filter_distinct : {X : Type 0} (test : X → Bool) (xs : List X) → AreDistinct xs → AreDistinct (filter test xs)
filter_distinct test [] d = tt
filter_distinct test (x ∷ xs) d = by (test x) (filter_distinct test xs d.1)
  where
    by : (b : Bool) → AreDistinct (filter test xs) → AreDistinct (cond b (x ∷ filter test xs) (filter test xs))
    by true k = (λ h. d.0 (filter_sound test x xs h).0, k)
    by false k = k

-- What is left of a list without one of its elements.

-- ys is xs without an x
pub data Drops {X : Type 0} (x : X) : List X → List X → Type 0 where
  here : {xs : List X} → Drops x (x ∷ xs) xs
  later : {xs ys : List X} (y : X) → Drops x xs ys → Drops x (y ∷ xs) (y ∷ ys)

pub taken : {X : Type 0} (x : X) (xs : List X) → Among x xs → (ys : List X) × Drops x xs ys
taken x [] h = elim h [ ]
taken x (y ∷ ys) (inl e) = (ys, subst (λ z. Drops x (z ∷ ys) ys) e here)
taken x (y ∷ ys) (inr h) = let (zs, d) = taken x ys h in (y ∷ zs, later y d)

pub drops_length : {X : Type 0} {x : X} {xs ys : List X} → Drops x xs ys → length xs ≡ suc (length ys)
drops_length here = refl
drops_length (later y d) = ap suc (drops_length d)

pub drops_had : {X : Type 0} {x : X} {xs ys : List X} → Drops x xs ys → Among x xs
drops_had here = inl refl
drops_had (later y d) = inr (drops_had d)

pub drops_kept : {X : Type 0} {x : X} {xs ys : List X} → Drops x xs ys → (y : X) → Among y xs → (y ≡ x) ⊎ Among y ys
drops_kept here y h = h
drops_kept (later z d) y (inl e) = inr (inl e)
drops_kept (later z d) y (inr h) = ⊎_elim (λ e. inl e) (λ k. inr (inr k)) (drops_kept d y h)

pub drops_only : {X : Type 0} {x : X} {xs ys : List X} → Drops x xs ys → (y : X) → Among y ys → Among y xs
drops_only here y h = inr h
drops_only (later z d) y (inl e) = inl e
drops_only (later z d) y (inr h) = inr (drops_only d y h)

pub drops_distinct : {X : Type 0} {x : X} {xs ys : List X} → Drops x xs ys → AreDistinct xs → AreDistinct ys
drops_distinct here a = a.1
drops_distinct (later z d) a = (λ h. a.0 (drops_only d z h), drops_distinct d a.1)

pub drops_gone : {X : Type 0} {x : X} {xs ys : List X} → Drops x xs ys → AreDistinct xs → ¬ Among x ys
drops_gone here a = a.0
drops_gone {x = x} (later {xs = xs} z d) a = λ h. ⊎_elim (λ e. a.0 (subst (λ w. Among w xs) e (drops_had d))) (drops_gone d a.1) h

pub drops_map : {X Y : Type 0} (f : X → Y) {x : X} {xs ys : List X} → Drops x xs ys → Drops (f x) (map f xs) (map f ys)
drops_map f here = here
drops_map f (later z d) = later (f z) (drops_map f d)

-- Pigeonholes.

-- where each x has a y of its own, there are at most as many x as y
pub pigeonhole : {X Y : Type 0} (R : X → Y → Type 0) → ((x z : X) (y : Y) → R x y → R z y → x ≡ z) → (xs : List X) (ys : List Y) → AreDistinct xs → ((x : X) → Among x xs → (y : Y) × Among y ys × R x y) → length xs ≤ length ys
pigeonhole R one [] ys a has = zero-le
pigeonhole R one (x ∷ xs) ys a has =
    let (y, k, r) = has x (inl refl) in
    let (zs, d) = taken y ys k in
    let rest = pigeonhole R one xs zs a.1 (λ z h. let (w, kw, s) = has z (inr h) in ⊎_elim (λ (e : w ≡ y). absurd (a.0 (subst (λ v. Among v xs) (one z x y (subst (R z) e s) r) h))) (λ g. (w, g, s)) (drops_kept d w kw)) in
    omega (arith, drops_length d, rest)

pub few_distinct : {X : Type 0} (xs ys : List X) → AreDistinct xs → ((x : X) → Among x xs → Among x ys) → length xs ≤ length ys
few_distinct xs ys a within = pigeonhole (λ x y. x ≡ y) (λ x z y e f. e ∙ sym f) xs ys a (λ x h. (x, within x h, refl))

-- Matchings as lists of pairs.

pub row_among : (r c : ℕ) (m : List Place) → Among (r, c) m → Among r (rows_of m)
row_among r c m h = among_map (λ (p : Place). p.0) (r, c) m h

pub col_among : (r c : ℕ) (m : List Place) → Among (r, c) m → Among c (cols_of m)
col_among r c m h = among_map (λ (p : Place). p.1) (r, c) m h

pub row_pair : (r : ℕ) (m : List Place) → Among r (rows_of m) → (c : ℕ) × Among (r, c) m
row_pair r [] h = elim h [ ]
row_pair r (p ∷ m) (inl e) = (p.1, inl (λ i. (e i, p.1)))
row_pair r (p ∷ m) (inr h) = let (c, k) = row_pair r m h in (c, inr k)

pub col_pair : (c : ℕ) (m : List Place) → Among c (cols_of m) → (r : ℕ) × Among (r, c) m
col_pair c [] h = elim h [ ]
col_pair c (p ∷ m) (inl e) = (p.0, inl (λ i. (p.0, e i)))
col_pair c (p ∷ m) (inr h) = let (r, k) = col_pair c m h in (r, inr k)

-- a row has one mate
pub one_col : (m : List Place) → AreDistinct (rows_of m) → (r c d : ℕ) → Among (r, c) m → Among (r, d) m → c ≡ d
one_col [] a r c d h k = elim h [ ]
one_col (p ∷ m) a r c d (inl e) (inl f) = ap (λ (q : Place). q.1) (e ∙ sym f)
one_col (p ∷ m) a r c d (inl e) (inr k) = absurd (a.0 (subst (λ x. Among x (rows_of m)) (ap (λ (q : Place). q.0) e) (row_among r d m k)))
one_col (p ∷ m) a r c d (inr h) (inl f) = absurd (a.0 (subst (λ x. Among x (rows_of m)) (ap (λ (q : Place). q.0) f) (row_among r c m h)))
one_col (p ∷ m) a r c d (inr h) (inr k) = one_col m a.1 r c d h k

-- a column has one mate
pub one_row : (m : List Place) → AreDistinct (cols_of m) → (r s c : ℕ) → Among (r, c) m → Among (s, c) m → r ≡ s
one_row [] a r s c h k = elim h [ ]
one_row (p ∷ m) a r s c (inl e) (inl f) = ap (λ (q : Place). q.0) (e ∙ sym f)
one_row (p ∷ m) a r s c (inl e) (inr k) = absurd (a.0 (subst (λ x. Among x (cols_of m)) (ap (λ (q : Place). q.1) e) (col_among s c m k)))
one_row (p ∷ m) a r s c (inr h) (inl f) = absurd (a.0 (subst (λ x. Among x (cols_of m)) (ap (λ (q : Place). q.1) f) (col_among r c m h)))
one_row (p ∷ m) a r s c (inr h) (inr k) = one_row m a.1 r s c h k

pub drops_rows : {p : Place} {m n : List Place} → Drops p m n → Drops p.0 (rows_of m) (rows_of n)
drops_rows d = drops_map (λ (q : Place). q.0) d

pub drops_cols : {p : Place} {m n : List Place} → Drops p m n → Drops p.1 (cols_of m) (cols_of n)
drops_cols d = drops_map (λ (q : Place). q.1) d

-- distinct rows are distinct pairs
pub distinct_pairs : (m : List Place) → AreDistinct (rows_of m) → AreDistinct m
distinct_pairs [] a = tt
distinct_pairs (p ∷ m) a = (λ h. a.0 (row_among p.0 p.1 m h), distinct_pairs m a.1)

-- Rising lists.

pub below_each_sound : (x y : ℕ) (ys : List ℕ) → IsBelowEach x ys → Among y ys → x < y
below_each_sound x y [] b h = elim h [ ]
below_each_sound x y (z ∷ ys) b (inl e) = rw e b.0
below_each_sound x y (z ∷ ys) b (inr h) = below_each_sound x y ys b.1 h

pub below_each_from : (x : ℕ) (ys : List ℕ) → ((y : ℕ) → Among y ys → x < y) → IsBelowEach x ys
below_each_from x [] f = tt
below_each_from x (y ∷ ys) f = (f y (inl refl), below_each_from x ys (λ z h. f z (inr h)))

pub rising_distinct : (xs : List ℕ) → IsRising xs → AreDistinct xs
rising_distinct [] a = tt
rising_distinct (x ∷ xs) a = (λ h. lt_irrefl x (below_each_sound x x xs a.0 h), rising_distinct xs a.1)

pub rising_filter : (test : ℕ → Bool) (xs : List ℕ) → IsRising xs → IsRising (filter test xs)
rising_filter test [] a = tt
rising_filter test (x ∷ xs) a = by (test x) (rising_filter test xs a.1)
  where
    by : (b : Bool) → IsRising (filter test xs) → IsRising (cond b (x ∷ filter test xs) (filter test xs))
    by true k = (below_each_from x (filter test xs) (λ y h. below_each_sound x y xs a.0 (filter_sound test y xs h).0), k)
    by false k = k

-- one more at the end, above all before
pub rising_last : (xs : List ℕ) (y : ℕ) → IsRising xs → ((x : ℕ) → Among x xs → x < y) → IsRising (xs ++ y ∷ [])
rising_last [] y a f = (tt, tt)
rising_last (x ∷ xs) y a f = (below_each_from x (xs ++ y ∷ []) (λ z h. ⊎_elim (λ g. below_each_sound x z xs a.0 g) (λ (e : z ≡ y). rw e (f x (inl refl))) (among_last z y xs h)), rising_last xs y a.1 (λ z h. f z (inr h)))

-- a rising list is determined by its members
pub rising_unique : (xs ys : List ℕ) → IsRising xs → IsRising ys → ((x : ℕ) → Among x xs → Among x ys) → ((x : ℕ) → Among x ys → Among x xs) → xs ≡ ys
rising_unique [] [] a b f g = refl
rising_unique [] (y ∷ ys) a b f g = absurd (g y (inl refl))
rising_unique (x ∷ xs) [] a b f g = absurd (f x (inl refl))
rising_unique (x ∷ xs) (y ∷ ys) a b f g = ap₂ (λ u v. u ∷ v) heads (rising_unique xs ys a.1 b.1 over back)
  where
    heads : x ≡ y
    heads = by (f x (inl refl)) (g y (inl refl))
      where
        by : Among x (y ∷ ys) → Among y (x ∷ xs) → x ≡ y
        by (inl e) k = e
        by (inr h) (inl e) = sym e
        by (inr h) (inr k) = absurd (omega (arith, below_each_sound y x ys b.0 h, below_each_sound x y xs a.0 k))

    over : (z : ℕ) → Among z xs → Among z ys
    over z h = ⊎_elim (λ (e : z ≡ y). absurd (omega (arith, below_each_sound x z xs a.0 h, e, heads))) (λ k. k) (f z (inr h))

    back : (z : ℕ) → Among z ys → Among z xs
    back z h = ⊎_elim (λ (e : z ≡ x). absurd (omega (arith, below_each_sound y z ys b.0 h, e, heads))) (λ k. k) (g z (inr h))

pub lists_unique : (P : ℕ → Type 0) (xs ys : List ℕ) → Lists P xs → Lists P ys → xs ≡ ys
lists_unique P xs ys a b = rising_unique xs ys a.rising b.rising (λ x h. b.complete x (a.sound x h)) (λ x h. a.complete x (b.sound x h))

pub lists_same : (P Q : ℕ → Type 0) (xs : List ℕ) → ((x : ℕ) → P x → Q x) → ((x : ℕ) → Q x → P x) → Lists P xs → Lists Q xs
lists_same P Q xs over back a = record { rising = a.rising; sound = λ x h. over x (a.sound x h); complete = λ x q. a.complete x (back x q) }

-- The numbers below n.

pub upto_sound : (k n x : ℕ) → Among x (upto_from k n) → (k ≤ x) × (x < k + n)
upto_sound k zero x h = elim h [ ]
upto_sound k (suc n) x (inl e) = omega arith
upto_sound k (suc n) x (inr h) = let both = upto_sound (suc k) n x h in omega (arith, both)

pub upto_complete : (k n x : ℕ) → k ≤ x → x < k + n → Among x (upto_from k n)
upto_complete k zero x le lt = absurd (omega arith)
upto_complete k (suc n) x le lt = ⊎_elim (λ (e : x ≡ k). inl e) (λ (ne : x ≢ k). inr (upto_complete (suc k) n x (omega arith) (omega arith))) (number_same x k)

pub upto_length : (k n : ℕ) → length (upto_from k n) ≡ n
upto_length k zero = refl
upto_length k (suc n) = ap suc (upto_length (suc k) n)

pub upto_mapped : {X : Type 0} (f : ℕ → X) (n : ℕ) → length (map f (upto n)) ≡ n
upto_mapped f n = length-map (upto n) f ∙ upto_length 0 n

pub upto_rising : (k n : ℕ) → IsRising (upto_from k n)
upto_rising k zero = tt
upto_rising k (suc n) = (below_each_from k (upto_from (suc k) n) (λ y h. (upto_sound (suc k) n y h).0), upto_rising (suc k) n)

up_more : (k n : ℕ) → upto_from k (n + 1) ≡ upto_from k n ++ (k + n) ∷ []
up_more k zero = let e : k ≡ k + 0 = omega arith in ap (λ x. x ∷ []) e
up_more k (suc n) =
    let more : suc n + 1 ≡ suc (n + 1) = omega arith in
    let last : suc k + n ≡ k + suc n = omega arith in
    ap (upto_from k) more ∙ ap (λ xs. k ∷ xs) (up_more (suc k) n ∙ ap (λ x. upto_from (suc k) n ++ x ∷ []) last)

-- one number more
pub upto_more : (n : ℕ) → upto (n + 1) ≡ upto n ++ n ∷ []
upto_more n = let e : 0 + n ≡ n = omega arith in up_more 0 n ∙ ap (λ x. upto n ++ x ∷ []) e

pub upto_lists : (n : ℕ) → Lists (λ x. x < n) (upto n)
upto_lists n = record { rising = upto_rising 0 n; sound = λ x h. omega (arith, (upto_sound 0 n x h).1); complete = λ x lt. upto_complete 0 n x zero-le (omega arith) }

-- the numbers below n that pass a test
pub filter_lists : (test : ℕ → Bool) (n : ℕ) → Lists (λ x. (x < n) × (test x ≡ true)) (filter test (upto n))
filter_lists test n = record { rising = rising_filter test (upto n) (upto_rising 0 n); sound = λ x h. let (k, e) = filter_sound test x (upto n) h in ((upto_lists n).sound x k, e); complete = λ x h. filter_complete test x (upto n) ((upto_lists n).complete x h.0) h.1 }

-- those of the numbers below n that are not on the list
abbrev pub beside : ℕ → List ℕ → List ℕ
beside n w = filter (λ x. not (list_any (nat_eq x) w)) (upto n)

pub beside_lists : (n : ℕ) (w : List ℕ) → Lists (λ x. (x < n) × (¬ Among x w)) (beside n w)
beside_lists n w = lists_same (λ x. (x < n) × (not (list_any (nat_eq x) w) ≡ true)) (λ x. (x < n) × (¬ Among x w)) (beside n w) (λ x h. (h.0, out x h.1)) (λ x h. (h.0, not_on x h.1)) (filter_lists (λ x. not (list_any (nat_eq x) w)) n)
  where
    out : (x : ℕ) → not (list_any (nat_eq x) w) ≡ true → ¬ Among x w
    out x e h = true≢false (sym e ∙ ap not ((among_test x w).1 h))

    not_on : (x : ℕ) → ¬ Among x w → not (list_any (nat_eq x) w) ≡ true
    not_on x nh = by (list_any (nat_eq x) w) refl
      where
        by : (b : Bool) → list_any (nat_eq x) w ≡ b → not b ≡ true
        by true e = absurd (nh ((among_test x w).0 e))
        by false e = refl

-- a rising list of numbers below n, and those beside it
pub beside_length : (n : ℕ) (w : List ℕ) → IsRising w → ((x : ℕ) → Among x w → x < n) → length w + length (beside n w) ≡ n
beside_length n w rising below = (ap (λ (v : List ℕ). length v + length (beside n w)) same) ∙ length-filter_both on (λ x. not (on x)) (λ x. refl) (upto n) ∙ upto_length 0 n
  where
    on : ℕ → Bool
    on x = list_any (nat_eq x) w

    same : w ≡ filter (λ x. list_any (nat_eq x) w) (upto n)
    same = lists_unique (λ x. Among x w) w (filter (λ x. list_any (nat_eq x) w) (upto n)) (record { rising = rising; sound = λ x h. h; complete = λ x h. h }) (lists_same (λ x. (x < n) × (list_any (nat_eq x) w ≡ true)) (λ x. Among x w) (filter (λ x. list_any (nat_eq x) w) (upto n)) (λ x h. (among_test x w).0 h.1) (λ x h. (below x h, (among_test x w).1 h)) (filter_lists (λ x. list_any (nat_eq x) w) n))

-- the numbers below n that have P cannot fail to be a list
listed_below : (P : ℕ → Type 0) (n : ℕ) → ¬ ¬ ((xs : List ℕ) × Lists (λ x. (x < n) × P x) xs)
listed_below P zero none = none ([], record { rising = tt; sound = λ x h. elim h [ ]; complete = λ x h. absurd (omega (arith, h.0)) })
listed_below P (suc n) none = listed_below P n (λ s. none (s.0, without s (λ p. none (s.0 ++ n ∷ [], with_last s p))))
  where
    with_last : (s : (xs : List ℕ) × Lists (λ x. (x < n) × P x) xs) → P n → Lists (λ x. (x < suc n) × P x) (s.0 ++ n ∷ [])
    with_last s p = record {
      rising = rising_last s.0 n s.1.rising (λ x h. (s.1.sound x h).0);
      sound = λ x h. ⊎_elim (λ k. (let lt = (s.1.sound x k).0 in omega (arith, lt), (s.1.sound x k).1)) (λ (e : x ≡ n). (omega arith, subst P (sym e) p)) (among_last x n s.0 h);
      complete = λ x h. ⊎_elim (λ (e : x ≡ n). among_right x s.0 (n ∷ []) (inl e)) (λ (ne : x ≢ n). among_left x s.0 (n ∷ []) (s.1.complete x (let lt = h.0 in omega arith, h.1))) (number_same x n);
    }

    without : (s : (xs : List ℕ) × Lists (λ x. (x < n) × P x) xs) → ¬ P n → Lists (λ x. (x < suc n) × P x) s.0
    without s np = record {
      rising = s.1.rising;
      sound = λ x h. (let lt = (s.1.sound x h).0 in omega (arith, lt), (s.1.sound x h).1);
      complete = λ x h. ⊎_elim (λ (e : x ≡ n). absurd (np (subst P e h.1))) (λ (ne : x ≢ n). s.1.complete x (let lt = h.0 in omega arith, h.1)) (number_same x n);
    }

pub listed : (P : ℕ → Type 0) (n : ℕ) → ((x : ℕ) → P x → x < n) → ¬ ¬ ((xs : List ℕ) × Lists P xs)
listed P n below none = listed_below P n (λ s. none (s.0, lists_same (λ x. (x < n) × P x) P s.0 (λ x h. h.1) (λ x p. (below x p, p)) s.1))

-- The neighbours of columns.

pub entry_col : (a : Matrix) (r c : ℕ) → IsEntry a r c → c < cols a
entry_col a r c e = by (dec_lt c (cols a))
  where
    by : Dec (c < cols a) → c < cols a
    by (yes lt) = lt
    by (no nlt) = absurd (subst (λ xs. Among r xs) (get_or_past a.columns c [] (omega arith)) e.1)

pub neighbours_lists : (a : Matrix) (w : List ℕ) → Lists (λ r. (c : ℕ) × Among c w × IsEntry a r c) (neighbours a w)
neighbours_lists a w = lists_same (λ r. (r < a.rows) × (touches a w r ≡ true)) (λ r. (c : ℕ) × Among c w × IsEntry a r c) (neighbours a w) over back (filter_lists (touches a w) a.rows)
  where
    over : (r : ℕ) → (r < a.rows) × (touches a w r ≡ true) → (c : ℕ) × Among c w × IsEntry a r c
    over r h = let (c, k, e) = any_sound (λ c. list_any (nat_eq r) (column a c)) w h.1 in (c, k, (h.0, (among_test r (column a c)).0 e))

    back : (r : ℕ) → (c : ℕ) × Among c w × IsEntry a r c → (r < a.rows) × (touches a w r ≡ true)
    back r h = (h.2.0, any_complete (λ c. list_any (nat_eq r) (column a c)) h.0 w h.1 ((among_test r (column a h.0)).1 h.2.1))

-- the numbers of a rising list in order
pub rising_order : (xs : List ℕ) → IsRising xs → (i j : ℕ) → i ≤ j → j < length xs → get_or xs i 0 ≤ get_or xs j 0
rising_order [] a i j le lt = absurd (omega arith)
rising_order (x ∷ xs) a zero zero le lt = omega arith
rising_order (x ∷ xs) a zero (suc j) le lt = let b = below_each_sound x (get_or xs j 0) xs a.0 (among_at xs j 0 (omega arith)) in omega (arith, b)
rising_order (x ∷ xs) a (suc i) zero le lt = absurd (omega arith)
rising_order (x ∷ xs) a (suc i) (suc j) le lt = rising_order xs a.1 i j (omega arith) (omega arith)

-- two tests that tell the same
pub same_test : (b c : Bool) → (b ≡ true → c ≡ true) → (c ≡ true → b ≡ true) → b ≡ c
same_test true c to from = sym (to refl)
same_test false true to from = from refl
same_test false false to from = refl

-- a mark is of a number below the length
pub marked_below : (marks : List Bool) (x : ℕ) → IsMarked marks x → x < length marks
marked_below [] x h = absurd (true≢false (sym h))
marked_below (b ∷ marks) zero h = omega arith
marked_below (b ∷ marks) (suc x) h = let lt = marked_below marks x h in omega arith
