-- Adding up the values of each place.
use Rattle.std.proofs.Common.{◌≡◌, ◌≢◌, ◌⊎◌, ◌∙◌, ℕ, ℤ, pos, ◌+◌, ◌*◌, ◌+ℤ◌, ◌<◌, ◌≤◌, ◌&&◌, List, [], ◌∷◌, ◌++◌, length, get_or, set, take, map, replicate, nat_eq, if◌then◌else◌, refl, sym, ap, arith, subst, inl, inr, eq-eqb, true, false, get_or-set_same, get_or-set_other, FitsSigned, Bool}
use Rattle.std.specs.Int.RustNames.{unsigned_abs}
use Rattle.std.specs.Int.{w64, w128}
use Rattle.std.proofs.Math.Decide.{dec_lt}
use Rattle.std.proofs.lemmas.List.{take_more, length-set, length-replicate, get_or-replicate, get_or-map, get_or_past}
use Rattle.std.proofs.lemmas.Bool.Decides.{nat_tests}
use Rattle.std.proofs.lemmas.Int.{ints, fits_signed_from_abs}
use Rattle.bip_defs.specs.Lists.{IsRising}
use Rattle.bip_defs.specs.Matrix.{IsEntry, Matrix, Place, column, entry_count}
use Rattle.bip_defs.proofs.Sets.{number_same, place_same}
use Rattle.sp_ids.specs.Entries.{Entries, Triple, place, places, values}
use Rattle.sp_pattern.specs.Weights.{AreSums, AreWeightsOf, IsFirstPast, position, sum_of, weight_limit, weight_of}
use Rattle.sp_pattern.proofs.Weighed.{position_fits, position_injective, position_order, weight_read}

-- what a triple adds to the sum of a place
abbrev pub value_at : Triple → ℕ → ℕ → ℤ
value_at t r c = if nat_eq t.row r && nat_eq t.col c then t.value else pos 0

test_other : (x y : ℕ) → x ≢ y → nat_eq x y ≡ false
test_other x y ne = grind (arith, nat_tests)

value_at_same : (t : Triple) (r c : ℕ) → t.row ≡ r → t.col ≡ c → value_at t r c ≡ t.value
value_at_same t r c e f = (λ i. if eq-eqb t.row r e i && eq-eqb t.col c f i then t.value else pos 0)

value_at_row : (t : Triple) (r c : ℕ) → t.row ≢ r → value_at t r c ≡ pos 0
value_at_row t r c ne = ap (λ b. if b && nat_eq t.col c then t.value else pos 0) (test_other t.row r ne)

value_at_col : (t : Triple) (r c : ℕ) → t.col ≢ c → value_at t r c ≡ pos 0
value_at_col t r c ne = ap (λ b. if nat_eq t.row r && b then t.value else pos 0) (test_other t.col c ne) ∙ both (nat_eq t.row r)
  where
    both : (b : Bool) → (if b && false then t.value else pos 0) ≡ pos 0
    both true = refl
    both false = refl

value_apart : (t : Triple) (r c : ℕ) → place t ≢ (r, c) → value_at t r c ≡ pos 0
value_apart t r c ne = by (number_same t.row r)
  where
    by : (t.row ≡ r) ⊎ (t.row ≢ r) → value_at t r c ≡ pos 0
    by (inr nr) = value_at_row t r c nr
    by (inl er) = value_at_col t r c (λ ec. ne (λ i. (er i, ec i)))

sum_of-cons : (t : Triple) (ts : List Triple) (r c : ℕ) → sum_of (t ∷ ts) r c ≡ value_at t r c +ℤ sum_of ts r c
sum_of-cons t ts r c = by (nat_eq t.row r && nat_eq t.col c)
  where
    by : (b : Bool) → (if b then t.value +ℤ sum_of ts r c else sum_of ts r c) ≡ (if b then t.value else pos 0) +ℤ sum_of ts r c
    by true = refl
    by false = omega (arith, ints)

pub sum_of-snoc : (ts : List Triple) (t : Triple) (r c : ℕ) → sum_of (ts ++ t ∷ []) r c ≡ sum_of ts r c +ℤ value_at t r c
sum_of-snoc [] t r c = let one = sum_of-cons t [] r c in omega (arith, ints, one)
sum_of-snoc (u ∷ ts) t r c =
    let rest = sum_of-snoc ts t r c in
    let one = sum_of-cons u ts r c in
    let two = sum_of-cons u (ts ++ t ∷ []) r c in
    omega (arith, ints, rest, one, two)

pub sums_start : (a : Matrix) → AreSums [] a (replicate (entry_count a) (pos 0))
sums_start a = record {
  long = length-replicate (entry_count a) (pos 0);
  each = λ r c e. get_or-replicate (entry_count a) (position a r c) (pos 0) (pos 0) (position_fits a r c e);
}

pub sums_step : (ts : List Triple) (k : ℕ) (a : Matrix) (sums : List ℤ) (d : Triple) (at : ℕ) (s : ℤ) → ((c : ℕ) → IsRising (column a c)) → AreSums (take k ts) a sums → k < length ts
    → IsEntry a (get_or ts k d).row (get_or ts k d).col → at ≡ position a (get_or ts k d).row (get_or ts k d).col → s ≡ get_or sums at (pos 0) +ℤ (get_or ts k d).value → AreSums (take (k + 1) ts) a (set sums at s)
sums_step ts k a sums d at s up was lt entry is new = record {
  long = rw length-set was.long;
  each = λ r c e. rw (take_more ts k d lt) (by r c e (place_same (place (get_or ts k d)) (r, c)));
}
  where
    by : (r c : ℕ) → IsEntry a r c → (place (get_or ts k d) ≡ (r, c)) ⊎ (place (get_or ts k d) ≢ (r, c)) → get_or (set sums at s) (position a r c) (pos 0) ≡ sum_of (take k ts ++ get_or ts k d ∷ []) r c
    by r c e (inl same) =
        let row = ap (λ (z : Place). z.0) same in
        let col = ap (λ (z : Place). z.1) same in
        let here : at ≡ position a r c = is ∙ (λ i. position a (row i) (col i)) in
        let inside = position_fits a r c e in
        let long = was.long in
        let old = was.each r c e in
        let written : get_or (set sums at s) (position a r c) (pos 0) ≡ s = ap (λ i. get_or (set sums i s) (position a r c) (pos 0)) here ∙ get_or-set_same sums (position a r c) s (pos 0) (omega (arith, inside, long)) in
        let read : get_or sums at (pos 0) ≡ get_or sums (position a r c) (pos 0) = ap (λ i. get_or sums i (pos 0)) here in
        let more = sum_of-snoc (take k ts) (get_or ts k d) r c in
        let value = value_at_same (get_or ts k d) r c row col in
        omega (arith, ints, written, read, old, more, value, new)
    by r c e (inr ne) =
        let other : position a r c ≢ at = λ same. let both = position_injective a r c (get_or ts k d).row (get_or ts k d).col (up c) (up (get_or ts k d).col) e entry (same ∙ is) in ne (λ i. (sym both.0 i, sym both.1 i)) in
        let kept = get_or-set_other sums at (position a r c) s (pos 0) other in
        let old = was.each r c e in
        let more = sum_of-snoc (take k ts) (get_or ts k d) r c in
        let value = value_apart (get_or ts k d) r c ne in
        omega (arith, ints, kept, old, more, value)

-- a triple whose place is no entry changes no sum
pub sums_same : (ts : List Triple) (k : ℕ) (a : Matrix) (sums : List ℤ) (d : Triple) → AreSums (take k ts) a sums → k < length ts → ¬ IsEntry a (get_or ts k d).row (get_or ts k d).col → AreSums (take (k + 1) ts) a sums
sums_same ts k a sums d was lt none = record {
  long = was.long;
  each = λ r c e. rw (take_more ts k d lt) (by r c e);
}
  where
    by : (r c : ℕ) → IsEntry a r c → get_or sums (position a r c) (pos 0) ≡ sum_of (take k ts ++ get_or ts k d ∷ []) r c
    by r c e =
        let old = was.each r c e in
        let more = sum_of-snoc (take k ts) (get_or ts k d) r c in
        let value = value_apart (get_or ts k d) r c (λ same. none (subst (λ (q : Place). IsEntry a q.0 q.1) (sym same) e)) in
        omega (arith, ints, old, more, value)

-- A sum is small enough for 128 bits.

pub abs_within : (x y : ℤ) (m n : ℕ) → unsigned_abs x ≤ m → unsigned_abs y ≤ n → unsigned_abs (x +ℤ y) ≤ m + n
abs_within x y m n a b = grind (arith, ints)

abs_fits : (z : ℤ) → FitsSigned w64 z → unsigned_abs z ≤ 9223372036854775808
abs_fits z f = grind (arith, ints)

-- what stands for a triple past the end
abbrev pub no_triple : Triple
no_triple = record { row = 0; col = 0; value = pos 0 }

-- The next triple.

next_is : (t : Entries) (k : ℕ) (p : Place) → k < length t.items → p ≡ get_or (places t) k (0, 0) → p ≡ place (get_or t.items k no_triple)
next_is t k p lt is = is ∙ get_or-map place t.items k no_triple (0, 0) lt

next_value : (t : Entries) (k : ℕ) (v : ℤ) → k < length t.items → v ≡ get_or (values t) k (pos 0) → v ≡ (get_or t.items k no_triple).value
next_value t k v lt is = is ∙ get_or-map (λ (u : Triple). u.value) t.items k no_triple (pos 0) lt

pub sums_next : (t : Entries) (a : Matrix) (k : ℕ) (sums : List ℤ) (at : ℕ) (p : Place) (v s : ℤ) → ((c : ℕ) → IsRising (column a c)) → IsEntry a p.0 p.1 → AreSums (take k t.items) a sums → k < length t.items
    → p ≡ get_or (places t) k (0, 0) → v ≡ get_or (values t) k (pos 0) → at ≡ position a p.0 p.1 → s ≡ get_or sums at (pos 0) +ℤ v → AreSums (take (k + 1) t.items) a (set sums at s)
sums_next t a k sums at p v s up entry was lt is value there new =
    let here = next_is t k p lt is in
    sums_step t.items k a sums no_triple at s up was lt (subst (λ (q : Place). IsEntry a q.0 q.1) here entry) (there ∙ ap (λ (q : Place). position a q.0 q.1) here) (new ∙ ap (λ z. get_or sums at (pos 0) +ℤ z) (next_value t k v lt value))

-- The sums so far, and how large they may be.
pub record AreSumsSoFar (t : Entries) (a : Matrix) (k : ℕ) (sums : List ℤ) : Type 0 where
  pub sums_are : AreSums (take k t.items) a sums
  pub small : (i : ℕ) → unsigned_abs (get_or sums i (pos 0)) ≤ k * 9223372036854775808

pub so_far_start : (t : Entries) (a : Matrix) → AreSumsSoFar t a 0 (replicate (entry_count a) (pos 0))
so_far_start t a = record { sums_are = sums_start a; small = λ i. rw (zeros i (dec_lt i (entry_count a))) (omega arith) }
  where
    zeros : (i : ℕ) → Dec (i < entry_count a) → get_or (replicate (entry_count a) (pos 0)) i (pos 0) ≡ pos 0
    zeros i (yes lt) = get_or-replicate (entry_count a) i (pos 0) (pos 0) lt
    zeros i (no nlt) = get_or_past (replicate (entry_count a) (pos 0)) i (pos 0) (rw length-replicate (omega arith))

-- the next sum fits 128 bits
pub sum_fits : (t : Entries) (a : Matrix) (k : ℕ) (sums : List ℤ) (at : ℕ) (v s : ℤ) → AreSumsSoFar t a k sums → k < 4294967296 → FitsSigned w64 v → s ≡ get_or sums at (pos 0) → FitsSigned w128 (s +ℤ v)
sum_fits t a k sums at v s was few fits read =
    let both = abs_within s v (k * 9223372036854775808) 9223372036854775808 (rw read (was.small at)) (abs_fits v fits) in
    fits_signed_from_abs w128 (s +ℤ v) (omega (arith, both, few))

pub so_far_next : (t : Entries) (a : Matrix) (k : ℕ) (sums : List ℤ) (at : ℕ) (p : Place) (v s new : ℤ) → ((c : ℕ) → IsRising (column a c)) → IsEntry a p.0 p.1 → AreSumsSoFar t a k sums → k < length t.items
    → p ≡ get_or (places t) k (0, 0) → v ≡ get_or (values t) k (pos 0) → FitsSigned w64 v → at ≡ position a p.0 p.1 → s ≡ get_or sums at (pos 0) → new ≡ s +ℤ v → AreSumsSoFar t a (k + 1) (set sums at new)
so_far_next t a k sums at p v s new up entry was lt is value fits there read made = record {
  sums_are = sums_next t a k sums at p v new up entry was.sums_are lt is value there (made ∙ ap (λ z. z +ℤ v) read);
  small = λ i. by i (number_same i at);
}
  where
    by : (i : ℕ) → (i ≡ at) ⊎ (i ≢ at) → unsigned_abs (get_or (set sums at new) i (pos 0)) ≤ (k + 1) * 9223372036854775808
    by i (inr ne) = let low = was.small i in rw (get_or-set_other sums at i new (pos 0) ne) (omega (arith, low))
    by i (inl e) =
        let inside : at < length sums = let long = was.sums_are.long in let f = position_fits a p.0 p.1 entry in omega (arith, long, f, there) in
        let both = abs_within s v (k * 9223372036854775808) 9223372036854775808 (rw read (was.small at)) (abs_fits v fits) in
        let written : get_or (set sums at new) i (pos 0) ≡ s +ℤ v = rw e (get_or-set_same sums at new (pos 0) inside ∙ made) in
        rw written (omega (arith, both))

pub so_far_same : (t : Entries) (a : Matrix) (k : ℕ) (sums : List ℤ) (p : Place) → ¬ IsEntry a p.0 p.1 → AreSumsSoFar t a k sums → k < length t.items → p ≡ get_or (places t) k (0, 0) → AreSumsSoFar t a (k + 1) sums
so_far_same t a k sums p none was lt is = record {
  sums_are = sums_same t.items k a sums no_triple was.sums_are lt (subst (λ (q : Place). ¬ IsEntry a q.0 q.1) (next_is t k p lt is) none);
  small = λ i. let low = was.small i in omega (arith, low);
}

-- What the sums say of the entries.

all_within : (t : Entries) (a : Matrix) (sums : List ℤ) → AreSums t.items a sums → ((i : ℕ) → i < length sums → unsigned_abs (get_or sums i (pos 0)) ≤ weight_limit) → (r c : ℕ) → IsEntry a r c → weight_of t r c ≤ weight_limit
all_within t a sums s small r c e = subst (λ z. unsigned_abs z ≤ weight_limit) (s.each r c e) (small (position a r c) (let fits = position_fits a r c e in let long = s.long in omega (arith, fits, long)))

pub weights_made : (t : Entries) (a : Matrix) (sums : List ℤ) (ws : List ℕ) → AreSums t.items a sums → ((i : ℕ) → i < length sums → unsigned_abs (get_or sums i (pos 0)) ≤ weight_limit) → ws ≡ map unsigned_abs sums → AreWeightsOf t a (record { matrix = a; weights = ws })
weights_made t a sums ws s small e = record {
  matrix_is = refl;
  weights_are = λ r c entry.
      let fits = position_fits a r c entry in
      let long = s.long in
      sym (weight_read (record { matrix = a; weights = ws }) r c entry)
      ∙ ap (λ xs. get_or xs (position a r c) 0) e
      ∙ get_or-map unsigned_abs sums (position a r c) (pos 0) 0 (omega (arith, fits, long))
      ∙ ap unsigned_abs (s.each r c entry);
  within = all_within t a sums s small;
}

pub first_past : (t : Entries) (a : Matrix) (sums : List ℤ) (k r c : ℕ) → ((d : ℕ) → IsRising (column a d)) → AreSums t.items a sums
    → weight_limit < unsigned_abs (get_or sums k (pos 0)) → ((i : ℕ) → i < k → unsigned_abs (get_or sums i (pos 0)) ≤ weight_limit) → IsEntry a r c → k ≡ position a r c → IsFirstPast t a r c
first_past t a sums k r c up s past small entry is = record {
  entry = entry;
  past = subst (λ z. weight_limit < unsigned_abs z) (ap (λ i. get_or sums i (pos 0)) is ∙ s.each r c entry) past;
  first = λ u d e large. position_order a r c u d (up c) entry e (after u d e large (dec_lt (position a u d) k));
}
  where
    after : (u d : ℕ) → IsEntry a u d → weight_limit < weight_of t u d → Dec (position a u d < k) → position a r c ≤ position a u d
    after u d e large (no nlt) = omega (arith, is)
    after u d e large (yes lt) = absurd (let low = subst (λ z. unsigned_abs z ≤ weight_limit) (s.each u d e) (small (position a u d) lt) in omega (arith, low, large))
