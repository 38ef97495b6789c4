-- Matchings of all rows or all columns.
use Rattle.std.proofs.Common.{◌≡◌, ℕ, ◌<◌, ◌≤◌, List, ◌∷◌, length, sym, subst, ⊎_elim, arith}
use Rattle.std.proofs.lemmas.List.{length-map}
use Rattle.bip_defs.specs.Lists.{Among, AreDistinct}
use Rattle.bip_defs.specs.Matching.{IsMatching, IsMaximum, cols_of, rows_of}
use Rattle.bip_defs.specs.Matrix.{Matrix, Place, cols, upto}
use Rattle.bip_defs.proofs.Sets.{col_pair, entry_col, few_distinct, number_among, row_pair, upto_length, upto_lists}

-- distinct numbers below n are at most n
pub few_below : (n : ℕ) (xs : List ℕ) → AreDistinct xs → ((x : ℕ) → Among x xs → x < n) → length xs ≤ n
few_below n xs differ below = omega (arith, upto_length 0 n, few_distinct xs (upto n) differ (λ x h. (upto_lists n).complete x (below x h)))

-- and as many as n are all of them
pub all_below : (n : ℕ) (xs : List ℕ) → AreDistinct xs → ((x : ℕ) → Among x xs → x < n) → n ≤ length xs → (x : ℕ) → x < n → Among x xs
all_below n xs differ below many x lt = ⊎_elim (λ h. h) (λ out. absurd (too_many out)) (number_among x xs)
  where
    too_many : ¬ Among x xs → ⊥
    too_many out = omega (arith, many, few_below n (x ∷ xs) (out, differ) (λ y h. ⊎_elim (λ (e : y ≡ x). subst (λ z. z < n) (sym e) lt) (λ k. below y k) h))

-- a matching has no more pairs than columns
pub matching_few : (a : Matrix) (m : List Place) → IsMatching a m → length m ≤ cols a
matching_few a m k = omega (arith, length-map m (λ (p : Place). p.1), few_below (cols a) (cols_of m) k.cols_differ (λ c h. let (r, p) = col_pair c m h in entry_col a r c (k.entries r c p)))

-- one with as many is maximum
pub full_maximum : (a : Matrix) (m : List Place) → IsMatching a m → length m ≡ cols a → IsMaximum a m
full_maximum a m k full = record { matching = k; longest = λ o l. omega (arith, full, matching_few a o l) }

-- and has all columns
pub has_all_cols : (a : Matrix) (m : List Place) → IsMatching a m → cols a ≤ length m → (c : ℕ) → c < cols a → Among c (cols_of m)
has_all_cols a m k many c lt = all_below (cols a) (cols_of m) k.cols_differ (λ x h. let (r, p) = col_pair x m h in entry_col a r x (k.entries r x p)) (rw length-map many) c lt

pub has_all_rows : (a : Matrix) (m : List Place) → IsMatching a m → a.rows ≤ length m → (r : ℕ) → r < a.rows → Among r (rows_of m)
has_all_rows a m k many r lt = all_below a.rows (rows_of m) k.rows_differ (λ x h. let (c, p) = row_pair x m h in (k.entries x c p).0) (rw length-map many) r lt
