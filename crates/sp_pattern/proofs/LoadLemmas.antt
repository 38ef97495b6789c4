-- The load matrix, column by column.
use Rattle.std.proofs.Common.{◌≡◌, ◌≢◌, ◌⊎◌, ◌↔◌, ◌∙◌, ℕ, zero, suc, ◌+◌, ◌*◌, ◌/◌, ◌%◌, ◌<◌, ◌≤◌, List, [], ◌∷◌, ◌++◌, length, map, nat_eq, if◌then◌else◌, refl, sym, ap, arith, subst, inl, inr, ⊎_elim, eq-eqb, append_assoc, append-nil, false, length-append, slice_index_or, IsPermutation}
use Rattle.std.proofs.Math.Nat.{div-add-mod, add-mul-mod_self_left, mod-lt}
use Rattle.std.proofs.lemmas.Bool.Decides.{nat_tests}
use Rattle.std.proofs.lemmas.List.Sorted.{Contains-permutation, IsPermutation-sym, length_permutation}
use Rattle.std.specs.List.{flat_map}
use Rattle.bip_defs.specs.Lists.{Among, IsRising}
use Rattle.bip_defs.specs.Matching.{transposed_places}
use Rattle.bip_defs.specs.Matrix.{Place, upto, upto_from}
use Rattle.bip_defs.proofs.Sets.{among_either, among_from_contains, among_last, among_left, among_right, below_each_sound, contains_from_among, number_same, upto_complete, upto_sound}
use Rattle.bip_defs.proofs.Transposed.{turned_among, turned_back, turned_length}
use Rattle.sp_pattern.specs.Load.{IsOneOf, after_one, distinct_of, load_column, load_places}
use Rattle.sp_pattern.specs.Pairs.{IsBefore, IsCompressed, IsOrderOf, Pair}
use Rattle.sp_pattern.proofs.Orders.{compressed_push}

-- Remainders.

-- a part may be taken by what is left of it
pub part_left : (x y n : ℕ) → (x + y % n) % n ≡ (x + y) % n
part_left x y n =
    let split = div-add-mod y n in
    let same : x + y ≡ x + y % n + n * (y / n) = omega (arith, split) in
    sym (ap (λ z. z % n) same ∙ add-mul-mod_self_left (x + y % n) n (y / n))

-- the rows of a column
abbrev pub IsLoadRow : ℕ → ℕ → ℕ → ℕ → Type 0
IsLoadRow size seed c r = IsOneOf ((2 * c + seed) % size) ((3 * c + 2 * seed) % size) ((5 * c + 3 * seed) % size) r

load_row_below : (size seed c r : ℕ) → 0 < size → IsLoadRow size seed c r → r < size
load_row_below size seed c r some (inl e) = rw e (mod-lt (2 * c + seed) some)
load_row_below size seed c r some (inr (inl e)) = rw e (mod-lt (3 * c + 2 * seed) some)
load_row_below size seed c r some (inr (inr e)) = rw e (mod-lt (5 * c + 3 * seed) some)

-- The places by the definition.

column_over : (size seed k c r : ℕ) → Among (r, c) (load_column size seed k) → (c ≡ k) × IsLoadRow size seed k r
column_over size seed k c r (inl e) = (ap (λ (z : Place). z.1) e, inl (ap (λ (z : Place). z.0) e))
column_over size seed k c r (inr (inl e)) = (ap (λ (z : Place). z.1) e, inr (inl (ap (λ (z : Place). z.0) e)))
column_over size seed k c r (inr (inr (inl e))) = (ap (λ (z : Place). z.1) e, inr (inr (ap (λ (z : Place). z.0) e)))
column_over size seed k c r (inr (inr (inr e))) = elim e [ ]

column_back : (size seed k r : ℕ) → IsLoadRow size seed k r → Among (r, k) (load_column size seed k)
column_back size seed k r (inl e) = inl (ap (λ x. (x, k)) e)
column_back size seed k r (inr (inl e)) = inr (inl (ap (λ x. (x, k)) e))
column_back size seed k r (inr (inr e)) = inr (inr (inl (ap (λ x. (x, k)) e)))

columns_over : (size seed : ℕ) (ks : List ℕ) (c r : ℕ) → Among (r, c) (flat_map (load_column size seed) ks) → Among c ks × IsLoadRow size seed c r
columns_over size seed [] c r h = elim h [ ]
columns_over size seed (k ∷ ks) c r h = ⊎_elim
    (λ (g : Among (r, c) (load_column size seed k)). let both = column_over size seed k c r g in (inl both.0, rw both.0 both.1))
    (λ (g : Among (r, c) (flat_map (load_column size seed) ks)). let both = columns_over size seed ks c r g in (inr both.0, both.1))
    (among_either (r, c) (load_column size seed k) (flat_map (load_column size seed) ks) h)

columns_back : (size seed : ℕ) (ks : List ℕ) (c r : ℕ) → Among c ks → IsLoadRow size seed c r → Among (r, c) (flat_map (load_column size seed) ks)
columns_back size seed [] c r h g = elim h [ ]
columns_back size seed (k ∷ ks) c r (inl e) g = among_left (r, c) (load_column size seed k) (flat_map (load_column size seed) ks) (rw e (column_back size seed k r (rw e at g)))
columns_back size seed (k ∷ ks) c r (inr h) g = among_right (r, c) (load_column size seed k) (flat_map (load_column size seed) ks) (columns_back size seed ks c r h g)

length-columns : (size seed : ℕ) (k n : ℕ) → length (flat_map (load_column size seed) (upto_from k n)) ≡ 3 * n
length-columns size seed k zero = refl
length-columns size seed k (suc n) = let rest = length-columns size seed (suc k) n in omega (arith, rest)

-- Three numbers in another order.

among_three : (xs : List ℕ) → length xs ≡ 3 → (x : ℕ) → Among x xs ↔ IsOneOf (slice_index_or xs 0 0) (slice_index_or xs 1 0) (slice_index_or xs 2 0) x
among_three (a ∷ b ∷ c ∷ []) long x = ((λ h. elim h [ inl e ↦ inl e | inr g ↦ elim g [ inl e ↦ inr (inl e) | inr k ↦ elim k [ inl e ↦ inr (inr e) | inr l ↦ absurd l ] ] ]), λ h. elim h [ inl e ↦ inl e | inr g ↦ elim g [ inl e ↦ inr (inl e) | inr e ↦ inr (inr (inl e)) ] ])
among_three [] long x = absurd (omega (arith, long))
among_three (a ∷ []) long x = absurd (omega (arith, long))
among_three (a ∷ b ∷ []) long x = absurd (omega (arith, long))
among_three (a ∷ b ∷ c ∷ d ∷ xs) long x = absurd (omega (arith, long))

one_of_permuted : (xs ys : List ℕ) → length xs ≡ 3 → IsPermutation xs ys → (x : ℕ) → IsOneOf (slice_index_or xs 0 0) (slice_index_or xs 1 0) (slice_index_or xs 2 0) x → IsOneOf (slice_index_or ys 0 0) (slice_index_or ys 1 0) (slice_index_or ys 2 0) x
one_of_permuted xs ys long moved x h =
    let kept = Contains-permutation xs ys x moved (contains_from_among x xs ((among_three xs long x).1 h)) in
    (among_three ys (length_permutation xs ys moved ∙ long) x).0 (among_from_contains x ys kept)

-- three numbers in another order are the same three
pub same_three : (a b c : ℕ) (ys : List ℕ) → IsPermutation (a ∷ b ∷ c ∷ []) ys → (x : ℕ) → IsOneOf (slice_index_or ys 0 0) (slice_index_or ys 1 0) (slice_index_or ys 2 0) x ↔ IsOneOf a b c x
same_three a b c ys moved x = (
  one_of_permuted ys (a ∷ b ∷ c ∷ []) (length_permutation _ ys moved) (IsPermutation-sym _ ys moved) x,
  one_of_permuted (a ∷ b ∷ c ∷ []) ys refl moved x,
)

-- Three numbers in order, each once.

after_same : (a b : ℕ) → b ≡ a → after_one a b ≡ []
after_same a b e = ap (λ t. if t then [] else b ∷ []) (eq-eqb b a e)

after_other : (a b : ℕ) → b ≢ a → after_one a b ≡ b ∷ []
after_other a b ne = ap (λ t. if t then [] else b ∷ []) (test_other b a ne)
  where
    test_other : (x y : ℕ) → x ≢ y → nat_eq x y ≡ false
    test_other x y ne = grind (arith, nat_tests)

pub record IsThree (a b c : ℕ) (xs : List ℕ) : Type 0 where
  pub rising : IsRising xs
  pub members : (x : ℕ) → Among x xs ↔ IsOneOf a b c x
  pub few : length xs ≤ 3

pub distinct_three : (a b c : ℕ) → a ≤ b → b ≤ c → IsThree a b c (distinct_of a b c)
distinct_three a b c ab bc = by (number_same b a) (number_same c b)
  where
    by : (b ≡ a) ⊎ (b ≢ a) → (c ≡ b) ⊎ (c ≢ b) → IsThree a b c (distinct_of a b c)
    by (inl e) (inl f) = rw (after_same a b e, after_same b c f) record {
      rising = (tt, tt);
      members = λ x. ((λ (h : Among x (a ∷ [])). elim h [ inl g ↦ inl g | inr g ↦ absurd g ]), λ h. elim h [ inl g ↦ inl g | inr g ↦ elim g [ inl k ↦ inl (k ∙ e) | inr k ↦ inl (k ∙ f ∙ e) ] ]);
      few = omega arith;
    }
    by (inl e) (inr nf) = rw (after_same a b e, after_other b c nf) record {
      rising = ((omega arith, tt), (tt, tt));
      members = λ x. ((λ (h : Among x (a ∷ c ∷ [])). elim h [ inl g ↦ inl g | inr g ↦ elim g [ inl k ↦ inr (inr k) | inr k ↦ absurd k ] ]), λ h. elim h [ inl g ↦ inl g | inr g ↦ elim g [ inl k ↦ inl (k ∙ e) | inr k ↦ inr (inl k) ] ]);
      few = omega arith;
    }
    by (inr ne) (inl f) = rw (after_other a b ne, after_same b c f) record {
      rising = ((omega arith, tt), (tt, tt));
      members = λ x. ((λ (h : Among x (a ∷ b ∷ [])). elim h [ inl g ↦ inl g | inr g ↦ elim g [ inl k ↦ inr (inl k) | inr k ↦ absurd k ] ]), λ h. elim h [ inl g ↦ inl g | inr g ↦ elim g [ inl k ↦ inr (inl k) | inr k ↦ inr (inl (k ∙ f)) ] ]);
      few = omega arith;
    }
    by (inr ne) (inr nf) = rw (after_other a b ne, after_other b c nf) record {
      rising = ((omega arith, (omega arith, tt)), ((omega arith, tt), (tt, tt)));
      members = λ x. ((λ (h : Among x (a ∷ b ∷ c ∷ [])). elim h [ inl g ↦ inl g | inr g ↦ elim g [ inl k ↦ inr (inl k) | inr k ↦ elim k [ inl l ↦ inr (inr l) | inr l ↦ absurd l ] ] ]), λ h. elim h [ inl g ↦ inl g | inr g ↦ elim g [ inl k ↦ inr (inl k) | inr k ↦ inr (inr (inl k)) ] ]);
      few = omega arith;
    }

-- A column's rows are added at the end.

abbrev pub with_outer : ℕ → List ℕ → List Pair
with_outer i js = map (λ (j : ℕ). (i, j)) js

pub with_outer_over : (i : ℕ) (js : List ℕ) (p : Pair) → Among p (with_outer i js) → (p.0 ≡ i) × Among p.1 js
with_outer_over i [] p h = elim h [ ]
with_outer_over i (j ∷ js) p (inl e) = (ap (λ (z : Pair). z.0) e, inl (ap (λ (z : Pair). z.1) e))
with_outer_over i (j ∷ js) p (inr h) = let both = with_outer_over i js p h in (both.0, inr both.1)

pub with_outer_back : (i : ℕ) (js : List ℕ) (j : ℕ) → Among j js → Among (i, j) (with_outer i js)
with_outer_back i [] j h = elim h [ ]
with_outer_back i (k ∷ js) j (inl e) = inl (ap (λ (x : ℕ). (i, x)) e)
with_outer_back i (k ∷ js) j (inr h) = inr (with_outer_back i js j h)

pub compressed_extend : (ds : List Pair) (starts flat : List ℕ) (i : ℕ) (js : List ℕ) → length starts ≡ i + 1 → IsRising js → ((q : Pair) (x : ℕ) → Among q ds → Among x js → IsBefore q (i, x)) → IsCompressed ds starts flat → IsCompressed (ds ++ with_outer i js) starts (flat ++ js)
compressed_extend ds starts flat i [] long up above f = rw (append-nil ds, append-nil flat) f
compressed_extend ds starts flat i (j ∷ js) long up above f =
    let rest = compressed_extend (ds ++ (i, j) ∷ []) starts (flat ++ j ∷ []) i js long up.1 next (compressed_push ds starts flat (i, j) long (λ q h. above q j h (inl refl)) f) in
    rw (append_assoc ds ((i, j) ∷ []) (with_outer i js), append_assoc flat (j ∷ []) js) at rest
  where
    next : (q : Pair) (x : ℕ) → Among q (ds ++ (i, j) ∷ []) → Among x js → IsBefore q (i, x)
    next q x h g = ⊎_elim (λ (k : Among q ds). above q x k (inr g))
        (λ (e : q ≡ (i, j)). inr (ap (λ (z : Pair). z.0) e, let second = ap (λ (z : Pair). z.1) e in let lt = below_each_sound j x js up.0 g in omega (arith, second, lt)))
        (among_last q (i, j) ds h)

-- the first k columns stand in the flat list
pub record IsLoading (size seed k : ℕ) (starts flat : List ℕ) : Type 0 where
  pub pairs : List Pair
  pub compressed : IsCompressed pairs starts flat
  pub long : length starts ≡ k
  pub members : (p : Pair) → Among p pairs ↔ ((p.0 < k) × IsLoadRow size seed p.0 p.1)
  pub few : length flat ≤ 3 * k

pub loading_step : (size seed k : ℕ) (starts opened flat longer : List ℕ) (a b c : ℕ) → IsLoading size seed k starts flat → length opened ≡ k + 1
    → ((ds : List Pair) → IsCompressed ds starts flat → IsCompressed ds opened flat) → longer ≡ flat ++ distinct_of a b c → (a ≤ b) × (b ≤ c)
    → ((x : ℕ) → IsOneOf a b c x ↔ IsLoadRow size seed k x) → IsLoading size seed (k + 1) opened longer
loading_step size seed k starts opened flat longer a b c l long kept more order same = record {
  pairs = l.pairs ++ with_outer k js;
  compressed = rw more (compressed_extend l.pairs opened flat k js long three.rising above (kept l.pairs l.compressed));
  long = long;
  members = λ p. (over p, back p);
  few = let f = l.few in let t = three.few in rw (more, length-append) (omega (arith, f, t));
}
  where
    js : List ℕ
    js = distinct_of a b c

    three : IsThree a b c (distinct_of a b c)
    three = distinct_three a b c order.0 order.1

    above : (q : Pair) (x : ℕ) → Among q l.pairs → Among x (distinct_of a b c) → IsBefore q (k, x)
    above q x h g = inl ((l.members q).0 h).0

    over : (p : Pair) → Among p (l.pairs ++ with_outer k (distinct_of a b c)) → (p.0 < k + 1) × IsLoadRow size seed p.0 p.1
    over p h = ⊎_elim (λ (g : Among p l.pairs). let both = (l.members p).0 g in (let lt = both.0 in omega (arith, lt), both.1))
        (λ (g : Among p (with_outer k (distinct_of a b c))). let both = with_outer_over k (distinct_of a b c) p g in (let e = both.0 in omega (arith, e), rw both.0 ((same p.1).0 ((three.members p.1).0 both.1))))
        (among_either p l.pairs (with_outer k (distinct_of a b c)) h)

    back : (p : Pair) → (p.0 < k + 1) × IsLoadRow size seed p.0 p.1 → Among p (l.pairs ++ with_outer k (distinct_of a b c))
    back p h = by (number_same p.0 k)
      where
        by : (p.0 ≡ k) ⊎ (p.0 ≢ k) → Among p (l.pairs ++ with_outer k (distinct_of a b c))
        by (inl e) =
            let row : IsLoadRow size seed k p.1 = subst (λ i. IsLoadRow size seed i p.1) e h.1 in
            let at : Among (k, p.1) (with_outer k (distinct_of a b c)) = with_outer_back k (distinct_of a b c) p.1 ((three.members p.1).1 ((same p.1).1 row)) in
            among_right p l.pairs (with_outer k (distinct_of a b c)) (subst (λ i. Among (i, p.1) (with_outer k (distinct_of a b c))) (sym e) at)
        by (inr ne) = among_left p l.pairs (with_outer k (distinct_of a b c)) ((l.members p).1 (let lt = h.0 in omega (arith, lt, ne), h.1))

pub loading_end : (size seed k : ℕ) (starts opened flat : List ℕ) → 0 < size → IsLoading size seed k starts flat → k ≡ size → length opened ≡ size + 1
    → ((ds : List Pair) → IsCompressed ds starts flat → IsCompressed ds opened flat) → IsOrderOf size size (transposed_places (load_places size seed)) opened flat
loading_end size seed k starts opened flat some l done long kept = record {
  order = record {
    pairs = l.pairs;
    long = long;
    compressed = kept l.pairs l.compressed;
    inside = λ p h. let both = (l.members p).0 h in (let lt = both.0 in omega (arith, lt, done), load_row_below size seed p.0 p.1 some both.1);
  };
  same = λ p. (
    (λ h. let both = (l.members p).0 h in turned_among p.1 p.0 (load_places size seed) (columns_back size seed (upto size) p.0 p.1 (upto_complete 0 size p.0 (omega arith) (let lt = both.0 in omega (arith, lt, done))) both.1)),
    λ h. let both = columns_over size seed (upto size) p.0 p.1 (turned_back p.1 p.0 (load_places size seed) h) in (l.members p).1 (let lt = (upto_sound 0 size p.0 both.0).1 in omega (arith, lt, done), both.1),
  );
  few = let n = length-columns size seed 0 size in let t = turned_length (load_places size seed) in let f = l.few in omega (arith, n, t, f, done);
}

-- What the three formulas give.
pub load_rows_same : (size seed k first second third x y z : ℕ) → first ≡ 1 * seed % size → second ≡ 2 * seed % size → third ≡ 3 * seed % size
    → x ≡ (2 * k + first) % size → y ≡ (3 * k + second) % size → z ≡ (5 * k + third) % size → (r : ℕ) → IsOneOf x y z r ↔ IsLoadRow size seed k r
load_rows_same size seed k first second third x y z f s t ex ey ez r = subst (λ u. IsOneOf u y z r ↔ IsLoadRow size seed k r) (sym one) (subst (λ u. IsOneOf ((2 * k + seed) % size) u z r ↔ IsLoadRow size seed k r) (sym two) (subst (λ u. IsOneOf ((2 * k + seed) % size) ((3 * k + 2 * seed) % size) u r ↔ IsLoadRow size seed k r) (sym three) ((λ h. h), λ h. h)))
  where
    one : x ≡ (2 * k + seed) % size
    one = let once : 2 * k + 1 * seed ≡ 2 * k + seed = omega arith in ex ∙ ap (λ u. (2 * k + u) % size) f ∙ part_left (2 * k) (1 * seed) size ∙ ap (λ u. u % size) once

    two : y ≡ (3 * k + 2 * seed) % size
    two = ey ∙ ap (λ u. (3 * k + u) % size) s ∙ part_left (3 * k) (2 * seed) size

    three : z ≡ (5 * k + 3 * seed) % size
    three = ez ∙ ap (λ u. (5 * k + u) % size) t ∙ part_left (5 * k) (3 * seed) size

pub iff_trans : {P Q R : Type 0} → P ↔ Q → Q ↔ R → P ↔ R
iff_trans a b = ((λ p. b.0 (a.0 p)), λ r. a.1 (b.1 r))

pub length_load : (size seed : ℕ) → length (transposed_places (load_places size seed)) ≡ 3 * size
length_load size seed = turned_length (load_places size seed) ∙ length-columns size seed 0 size
