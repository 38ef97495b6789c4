-- Sums of prices over a full matching.
use Rattle.std.proofs.Common.{◌≡◌, ◌∙◌, ℕ, ℤ, pos, ◌+◌, ◌+ℤ◌, ◌<◌, ◌≤◌, List, [], ◌∷◌, length, refl, sym, subst, inl, inr, ⊎_elim, arith}
use Rattle.std.specs.Prelude.{◌≤ℤ◌}
use Rattle.std.proofs.lemmas.Int.{ints}
use Rattle.std.proofs.lemmas.List.{length-map}
use Rattle.std.proofs.lemmas.List.Sums.{sum_by-cons}
use Rattle.bip_defs.specs.Lists.{Among, AreDistinct}
use Rattle.bip_defs.specs.Matching.{IsRank, cols_of, rows_of}
use Rattle.bip_defs.specs.Matrix.{Matrix, Place, cols, upto}
use Rattle.bip_defs.proofs.Full.{full_maximum}
use Rattle.bip_defs.proofs.Sets.{Drops, here, later, drops_distinct, drops_gone, drops_kept, drops_only, entry_col, few_distinct, taken, row_pair, col_pair, upto_length, upto_lists, rising_distinct}
use Rattle.bip_defs.specs.Bottleneck.{IsFull}
use Rattle.integer_diagonal.specs.Prices.{AreFair, price, total}
use Rattle.sp_pattern.specs.Weights.{Weighing, weight_at}

-- the sum of integers by number
abbrev pub sum_of : (ℕ → ℤ) → List ℕ → ℤ
sum_of f [] = pos 0
sum_of f (x ∷ xs) = f x +ℤ sum_of f xs

sum_drops : (f : ℕ → ℤ) {x : ℕ} {xs ys : List ℕ} → Drops x xs ys → sum_of f xs ≡ f x +ℤ sum_of f ys
sum_drops f here = refl
sum_drops f (later y d) = let rest = sum_drops f d in omega (arith, ints, rest)

-- two lists of the same numbers, each once, have one sum
pub sum_same : (f : ℕ → ℤ) (xs ys : List ℕ) → AreDistinct xs → AreDistinct ys → ((x : ℕ) → Among x xs → Among x ys) → ((x : ℕ) → Among x ys → Among x xs) → sum_of f xs ≡ sum_of f ys
sum_same f [] [] a b over back = refl
sum_same f [] (y ∷ ys) a b over back = absurd (back y (inl refl))
sum_same f (x ∷ xs) ys a b over back =
    let (zs, d) = taken x ys (over x (inl refl)) in
    let all = sum_drops f d in
    let rest = sum_same f xs zs a.1 (drops_distinct d b) (λ y h. ⊎_elim (λ (e : y ≡ x). absurd (a.0 (subst (λ z. Among z xs) e h))) (λ k. k) (drops_kept d y (over y (inr h)))) (λ y h. ⊎_elim (λ (e : y ≡ x). absurd (drops_gone d b (subst (λ z. Among z zs) e h))) (λ k. k) (back y (drops_only d y h))) in
    omega (arith, ints, all, rest)

-- the pairs' weights add up to at most their prices
pub sum_covered : (w : Weighing) (u v : List ℤ) (m : List Place) → ((r c : ℕ) → Among (r, c) m → pos (weight_at w r c) ≤ℤ (price u r +ℤ price v c)) → pos (total w m) ≤ℤ (sum_of (price u) (rows_of m) +ℤ sum_of (price v) (cols_of m))
sum_covered w u v [] each = omega (arith, ints)
sum_covered w u v (p ∷ m) each =
    let one = each p.0 p.1 (inl refl) in
    let rest = sum_covered w u v m (λ r c h. each r c (inr h)) in
    let row : sum_of (price u) (rows_of (p ∷ m)) ≡ price u p.0 +ℤ sum_of (price u) (rows_of m) = refl in
    let col : sum_of (price v) (cols_of (p ∷ m)) ≡ price v p.1 +ℤ sum_of (price v) (cols_of m) = refl in
    let both : total w (p ∷ m) ≡ weight_at w p.0 p.1 + total w m = sum_by-cons (λ (q : Place). weight_at w q.0 q.1) p m in
    omega (arith, ints, one, rest, row, col, both)

pub sum_met : (w : Weighing) (u v : List ℤ) (m : List Place) → ((r c : ℕ) → Among (r, c) m → (price u r +ℤ price v c) ≡ pos (weight_at w r c)) → (sum_of (price u) (rows_of m) +ℤ sum_of (price v) (cols_of m)) ≡ pos (total w m)
sum_met w u v [] each = omega (arith, ints)
sum_met w u v (p ∷ m) each =
    let one = each p.0 p.1 (inl refl) in
    let rest = sum_met w u v m (λ r c h. each r c (inr h)) in
    let row : sum_of (price u) (rows_of (p ∷ m)) ≡ price u p.0 +ℤ sum_of (price u) (rows_of m) = refl in
    let col : sum_of (price v) (cols_of (p ∷ m)) ≡ price v p.1 +ℤ sum_of (price v) (cols_of m) = refl in
    let both : total w (p ∷ m) ≡ weight_at w p.0 p.1 + total w m = sum_by-cons (λ (q : Place). weight_at w q.0 q.1) p m in
    omega (arith, ints, one, rest, row, col, both)

-- the rows of a full matching are those of the matrix
full_row : (a : Matrix) (m : List Place) (r : ℕ) → IsFull a m → Among r (rows_of m) → r < a.rows
full_row a m r k h = let (c, g) = row_pair r m h in (k.matching.entries r c g).0

full_col : (a : Matrix) (m : List Place) (c : ℕ) → IsFull a m → Among c (cols_of m) → c < cols a
full_col a m c k h = let (r, g) = col_pair c m h in entry_col a r c (k.matching.entries r c g)

-- weak duality
pub no_heavier : (w : Weighing) (m other : List Place) (u v : List ℤ) → IsFull w.matrix m → AreFair w m u v → IsFull w.matrix other → total w other ≤ total w m
no_heavier w m other u v full fair also =
    let bound = sum_covered w u v other (λ r c h. fair.covers r c (also.matching.entries r c h)) in
    let exact = sum_met w u v m fair.meets in
    let rows = sum_same (price u) (rows_of other) (rows_of m) also.matching.rows_differ full.matching.rows_differ (λ r h. full.all_rows r (full_row w.matrix other r also h)) (λ r h. also.all_rows r (full_row w.matrix m r full h)) in
    let columns = sum_same (price v) (cols_of other) (cols_of m) also.matching.cols_differ full.matching.cols_differ (λ c h. full.all_cols c (full_col w.matrix other c also h)) (λ c h. also.all_cols c (full_col w.matrix m c full h)) in
    omega (arith, ints, bound, exact, rows, columns)

-- Sizes.

same_count : (n : ℕ) (xs : List ℕ) → AreDistinct xs → ((x : ℕ) → Among x xs → x < n) → ((x : ℕ) → x < n → Among x xs) → length xs ≡ n
same_count n xs a below all =
    let few = few_distinct xs (upto n) a (λ x h. (upto_lists n).complete x (below x h)) in
    let many = few_distinct (upto n) xs (rising_distinct (upto n) (upto_lists n).rising) (λ x h. all x ((upto_lists n).sound x h)) in
    let long = upto_length 0 n in
    omega (arith, few, many, long)

pub full_rows : (a : Matrix) (m : List Place) → IsFull a m → length m ≡ a.rows
full_rows a m k = sym (length-map m (λ (p : Place). p.0)) ∙ same_count a.rows (rows_of m) k.matching.rows_differ (λ r h. full_row a m r k h) k.all_rows

pub full_cols : (a : Matrix) (m : List Place) → IsFull a m → length m ≡ cols a
full_cols a m k = sym (length-map m (λ (p : Place). p.1)) ∙ same_count (cols a) (cols_of m) k.matching.cols_differ (λ c h. full_col a m c k h) k.all_cols

pub full_rank : (a : Matrix) (m : List Place) → IsFull a m → IsRank a (cols a)
full_rank a m k = (m, full_maximum a m k.matching (full_cols a m k), full_cols a m k)
