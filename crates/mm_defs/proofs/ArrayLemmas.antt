-- The places of the values of array files: how many they are, and which follows which.
use Rattle.std.proofs.Common.{◌≡◌, ℕ, zero, suc, ◌+◌, ◌-◌, ◌*◌, ◌/◌, ◌<◌, ◌≤◌, Bool, true, false, nat_lt, List, [], ◌∷◌, ◌++◌, length, map, get_or, refl, sym, ap, ◌∙◌, arith, flat_map, length-append, ltb-true, ltb-false, lt-ltb, le-ltb}
use Rattle.std.specs.List.{range_with_len}
use Rattle.std.proofs.Math.Nat.{mul-suc, suc-mul}
use Rattle.std.proofs.lemmas.List.Concat.{flat_map-cons}
use Rattle.std.proofs.lemmas.List.FromFn.{length-map-range_with_len}
use Rattle.mm_defs.specs.declared.header.Symmetry.{Symmetry}
use Rattle.mm_defs.specs.declared.header.Symmetry.TheVariants.{General, Symmetric, SkewSymmetric, Hermitian}
use Rattle.mm_defs.specs.Arrays.{HasValue, first_row, column_places, array_places, following, value_count}

-- ---- how many

length-column : (y : Symmetry) (rows col : ℕ) → length (column_places y rows col) ≡ rows - first_row y col
length-column y rows col = length-map-range_with_len (λ row. (row, col)) (first_row y col) (rows - first_row y col)

length-columns : (y : Symmetry) (rows col k : ℕ) → length (flat_map (column_places y rows) (range_with_len col (suc k)))
    ≡ (rows - first_row y col) + length (flat_map (column_places y rows) (range_with_len (col + 1) k))
length-columns y rows col k =
    ap length (flat_map-cons (column_places y rows) col (range_with_len (col + 1) k))
    ∙ length-append (column_places y rows col) (flat_map (column_places y rows) (range_with_len (col + 1) k))
    ∙ ap (λ n. n + length (flat_map (column_places y rows) (range_with_len (col + 1) k))) (length-column y rows col)

all_values : (rows col k : ℕ) → length (flat_map (column_places General rows) (range_with_len col k)) ≡ rows * k
all_values rows col zero = omega arith
all_values rows col (suc k) =
    let ih = all_values rows (col + 1) k in
    let e = length-columns General rows col k in
    let m = mul-suc rows k in
    omega arith

triangle : (y : Symmetry) → ((col : ℕ) → first_row y col ≡ col) → (rows col k : ℕ) → col + k ≡ rows
    → 2 * length (flat_map (column_places y rows) (range_with_len col k)) ≡ k * (k + 1)
triangle y f rows col zero h = omega arith
triangle y f rows col (suc k) h =
    let ih = triangle y f rows (col + 1) k (omega arith) in
    let e = length-columns y rows col k in
    let d = f col in
    let a = suc-mul k (suc k + 1) in
    let n : suc k + 1 ≡ suc (k + 1) = omega arith in
    let b : k * (suc k + 1) ≡ k * (k + 1) + k = rw n (mul-suc k (k + 1)) in
    omega arith

below_diagonal : (rows col k : ℕ) → col + k ≡ rows
    → 2 * length (flat_map (column_places SkewSymmetric rows) (range_with_len col k)) ≡ k * (k - 1)
below_diagonal rows col zero h = omega arith
below_diagonal rows col (suc zero) h = let e = length-columns SkewSymmetric rows col 0 in omega arith
below_diagonal rows col (suc (suc k)) h =
    let ih = below_diagonal rows (col + 1) (suc k) (omega arith) in
    let e = length-columns SkewSymmetric rows col (suc k) in
    let n : suc (suc k) - 1 ≡ suc k = omega arith in
    let m : suc k - 1 ≡ k = omega arith in
    let a : suc (suc k) * (suc (suc k) - 1) ≡ suc k * suc k + suc k = rw n (suc-mul (suc k) (suc k)) in
    let b : suc k * suc k ≡ suc k * (suc k - 1) + suc k = rw m (mul-suc (suc k) k) in
    omega arith

halved : (n product : ℕ) → 2 * n ≡ product → n ≡ product / 2
halved n product h = omega arith

pub general_count : (rows cols : ℕ) → length (array_places General rows cols) ≡ value_count General rows cols
general_count rows cols = all_values rows 0 cols

pub square_count : (y : Symmetry) (n : ℕ) → length (array_places y n n) ≡ value_count y n n
square_count General n = all_values n 0 n
square_count Symmetric n = halved _ _ (triangle Symmetric (λ col. refl) n 0 n (omega arith))
square_count SkewSymmetric n = halved _ _ (below_diagonal n 0 n (omega arith))
square_count Hermitian n = halved _ _ (triangle Hermitian (λ col. refl) n 0 n (omega arith))

-- ---- which follows which

-- these places follow one another, the first of them being this one, and all have values
abbrev pub Walk : Symmetry → ℕ → ℕ → ℕ × ℕ → List (ℕ × ℕ) → Type 0
Walk y rows cols p [] = Unit {0}
Walk y rows cols p (q ∷ qs) = (q ≡ p) × HasValue y rows cols q × Walk y rows cols (following y rows p) qs

column_walk : (y : Symmetry) (rows cols row col n : ℕ) (rest : List (ℕ × ℕ)) → row + suc n ≡ rows → col < cols → first_row y col ≤ row
    → Walk y rows cols (first_row y (col + 1), col + 1) rest → Walk y rows cols (row, col) (map (λ r. (r, col)) (range_with_len row (suc n)) ++ rest)
column_walk y rows cols row col zero rest h low first w =
    let e : nat_lt (row + 1) rows ≡ false = le-ltb (row + 1) rows (omega arith) in
    (refl, (omega arith, low, first), rw e w)
column_walk y rows cols row col (suc n) rest h low first w =
    let e : nat_lt (row + 1) rows ≡ true = lt-ltb (row + 1) rows (omega arith) in
    (refl, (omega arith, low, first), rw e (column_walk y rows cols (row + 1) col n rest (omega arith) low (omega arith) w))

first_rises : (y : Symmetry) (col : ℕ) → first_row y col ≤ first_row y (col + 1)
first_rises General col = omega arith
first_rises Symmetric col = omega arith
first_rises SkewSymmetric col = omega arith
first_rises Hermitian col = omega arith

none_left : (y : Symmetry) (rows col k : ℕ) → rows ≤ first_row y col → flat_map (column_places y rows) (range_with_len col k) ≡ []
none_left y rows col zero h = refl
none_left y rows col (suc k) h =
    let r = first_rises y col in
    let e : rows - first_row y col ≡ 0 = omega arith in
    let ih = none_left y rows (col + 1) k (omega arith) in
    flat_map-cons (column_places y rows) col (range_with_len (col + 1) k) ∙ rw (e, ih) refl

columns_walk : (y : Symmetry) (rows cols col k : ℕ) → col + k ≡ cols → Walk y rows cols (first_row y col, col) (flat_map (column_places y rows) (range_with_len col k))
columns_walk y rows cols col zero h = tt
columns_walk y rows cols col (suc k) h = by (nat_lt (first_row y col) rows) refl (columns_walk y rows cols (col + 1) k (omega arith))
  where
    by : (some : Bool) → nat_lt (first_row y col) rows ≡ some → Walk y rows cols (first_row y (col + 1), col + 1) (flat_map (column_places y rows) (range_with_len (col + 1) k))
        → Walk y rows cols (first_row y col, col) (flat_map (column_places y rows) (range_with_len col (suc k)))
    by true e rest =
        let lt : first_row y col < rows = ltb-true _ _ e in
        let n : rows - first_row y col ≡ suc (rows - first_row y col - 1) = omega arith in
        let w = column_walk y rows cols (first_row y col) col (rows - first_row y col - 1) (flat_map (column_places y rows) (range_with_len (col + 1) k)) (omega arith) (omega arith) (omega arith) rest in
        rw (flat_map-cons (column_places y rows) col (range_with_len (col + 1) k), n) w
    by false e rest =
        let le : rows ≤ first_row y col = ltb-false _ _ e in
        rw (none_left y rows col (suc k) le) tt

pub places_walk : (y : Symmetry) (rows cols : ℕ) → Walk y rows cols (first_row y 0, 0) (array_places y rows cols)
places_walk y rows cols = columns_walk y rows cols 0 cols (omega arith)

walk_first : (y : Symmetry) (rows cols : ℕ) (p : ℕ × ℕ) (ps : List (ℕ × ℕ)) → Walk y rows cols p ps → 0 < length ps → get_or ps 0 (0, 0) ≡ p
walk_first y rows cols p [] w h = absurd (omega arith)
walk_first y rows cols p (q ∷ ps) w h = w.0

walk_next : (y : Symmetry) (rows cols : ℕ) (p : ℕ × ℕ) (ps : List (ℕ × ℕ)) (k : ℕ) → Walk y rows cols p ps → k + 1 < length ps
    → get_or ps (k + 1) (0, 0) ≡ following y rows (get_or ps k (0, 0))
walk_next y rows cols p [] k w h = absurd (omega arith)
walk_next y rows cols p (q ∷ ps) zero w h = walk_first y rows cols (following y rows p) ps w.2 (omega arith) ∙ ap (following y rows) (sym w.0)
walk_next y rows cols p (q ∷ ps) (suc k) w h = let n : suc k + 1 ≡ suc (k + 1) = omega arith in rw n (walk_next y rows cols (following y rows p) ps k w.2 (omega arith))

walk_inside : (y : Symmetry) (rows cols : ℕ) (p : ℕ × ℕ) (ps : List (ℕ × ℕ)) (k : ℕ) → Walk y rows cols p ps → k < length ps
    → HasValue y rows cols (get_or ps k (0, 0))
walk_inside y rows cols p [] k w h = absurd (omega arith)
walk_inside y rows cols p (q ∷ ps) zero w h = w.1
walk_inside y rows cols p (q ∷ ps) (suc k) w h = walk_inside y rows cols (following y rows p) ps k w.2 (omega arith)

pub places_first : (y : Symmetry) (rows cols : ℕ) → 0 < length (array_places y rows cols) → get_or (array_places y rows cols) 0 (0, 0) ≡ (first_row y 0, 0)
places_first y rows cols h = walk_first y rows cols (first_row y 0, 0) (array_places y rows cols) (places_walk y rows cols) h

pub places_next : (y : Symmetry) (rows cols k : ℕ) → k + 1 < length (array_places y rows cols)
    → get_or (array_places y rows cols) (k + 1) (0, 0) ≡ following y rows (get_or (array_places y rows cols) k (0, 0))
places_next y rows cols k h = walk_next y rows cols (first_row y 0, 0) (array_places y rows cols) k (places_walk y rows cols) h

pub places_inside : (y : Symmetry) (rows cols k : ℕ) → k < length (array_places y rows cols)
    → HasValue y rows cols (get_or (array_places y rows cols) k (0, 0))
places_inside y rows cols k h = walk_inside y rows cols (first_row y 0, 0) (array_places y rows cols) k (places_walk y rows cols) h
