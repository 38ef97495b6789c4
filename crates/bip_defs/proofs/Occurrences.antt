-- How often a number occurs, where a list is put together or a count grows.
use Rattle.std.proofs.Common.{◌≡◌, ◌≢◌, ℕ, zero, suc, ◌+◌, ◌≤◌, ◌==◌, if◌then◌else◌, List, [], ◌∷◌, ◌++◌, refl, sym, ap, subst, ⊎_elim, arith, eq-eqb, ne_eqb, one-add}
use Rattle.bip_defs.specs.Occurrences.{below, times}
use Rattle.bip_defs.proofs.Sets.{number_same}

-- a number counts once for itself
pub one_here : (i j : ℕ) → i ≡ j → ◌≡◌ {A = ℕ} (if i == j then 1 else 0) 1
one_here i j e = rw (eq-eqb i j e) refl

-- and not for another
pub one_else : (i j : ℕ) → i ≢ j → ◌≡◌ {A = ℕ} (if i == j then 1 else 0) 0
one_else i j ne = rw (ne_eqb i j ne) refl

-- two lists, one after the other, have what both have
pub times_append : (i : ℕ) (xs ys : List (ℕ × ℕ)) → times i (xs ++ ys) ≡ times i xs + times i ys
times_append i [] ys = omega arith
times_append i (x ∷ xs) ys = let e = times_append i xs ys in omega (arith, e)

-- Numbers below a count.

below_suc : (n count : ℕ) → below n (suc count) ≡ below n count + (if count == n then 1 else 0)
below_suc zero zero = refl
below_suc zero (suc count) = let e = one_else (suc count) 0 (λ f. omega arith) in omega (arith, e)
below_suc (suc n) zero = let e = one_else 0 (suc n) (λ f. omega arith) in omega (arith, e)
below_suc (suc n) (suc count) = ⊎_elim (λ (e : count ≡ n). let same = one_here (suc count) (suc n) (ap suc e) in let was = one_here count n e in let more = below_suc n count in omega (arith, same, was, more)) (λ (ne : count ≢ n). let same = one_else (suc count) (suc n) (λ f. ne (omega arith)) in let was = one_else count n ne in let more = below_suc n count in omega (arith, same, was, more)) (number_same count n)

-- where the count is 1 more, the old count itself is below it
pub below_more : (n count : ℕ) → below n (1 + count) ≡ below n count + (if count == n then 1 else 0)
below_more n count = subst (λ c. below n c ≡ below n count + (if count == n then 1 else 0)) (sym (one-add count)) (below_suc n count)

-- no number is below a count more than once
pub below_once : (n count : ℕ) → below n count ≤ 1
below_once n zero = omega arith
below_once zero (suc count) = omega arith
below_once (suc n) (suc count) = below_once n count

-- below 1 there is only 0
pub below_one : (n : ℕ) → n ≢ 0 → below n 1 ≡ 0
below_one zero ne = absurd (ne refl)
below_one (suc n) ne = refl
