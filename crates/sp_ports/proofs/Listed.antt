-- How many of the listed calls are still to fail.
use Rattle.std.proofs.Common.{◌≡◌, ◌<◌, ◌≤◌, ◌+◌, ◌^◌, ℕ, zero, suc, List, [], ◌∷◌, length, get_or, cond, leb, arith, subst, sym}
use Rattle.std.specs.List.{Contains}
use Rattle.std.proofs.lemmas.List.Sums.{sum_by-cons, sum_by-le-sum_by}
use Rattle.std.proofs.lemmas.Bool.Decides.{leb_tells}
use Rattle.sp_ports.specs.Kept.{still_to_fail}
use Rattle.sp_ports.specs.InMemory.{number_after}

-- whether one listed call has the number or a later one
abbrev counts : ℕ → ℕ → ℕ
counts n x = cond {A = ℕ} (leb n x) 1 0

counts_fewer : (n m x : ℕ) → n ≤ m → counts m x ≤ counts n x
counts_fewer n m x h = grind (arith, leb_tells n x, leb_tells m x)

counts_itself : (n : ℕ) → counts (n + 1) n + 1 ≤ counts n n
counts_itself n = grind (arith, leb_tells n n, leb_tells (n + 1) n)

still_fewer : (failing : List ℕ) (n m : ℕ) → n ≤ m → still_to_fail failing m ≤ still_to_fail failing n
still_fewer failing n m h = sum_by-le-sum_by (counts m) (counts n) failing (λ x. counts_fewer n m x h)

fewer_past : (failing : List ℕ) (n k : ℕ) → k < length failing → get_or failing k n ≡ n
    → still_to_fail failing (n + 1) + 1 ≤ still_to_fail failing n
fewer_past [] n k h e = grind arith
fewer_past (x ∷ xs) n zero h e =
    let later : still_to_fail (x ∷ xs) (n + 1) ≡ counts (n + 1) x + still_to_fail xs (n + 1) = sum_by-cons (counts (n + 1)) x xs in
    let now : still_to_fail (x ∷ xs) n ≡ counts n x + still_to_fail xs n = sum_by-cons (counts n) x xs in
    let first : counts (n + 1) x + 1 ≤ counts n x = subst (λ y. counts (n + 1) y + 1 ≤ counts n y) (sym e) (counts_itself n) in
    let rest : still_to_fail xs (n + 1) ≤ still_to_fail xs n = still_fewer xs n (n + 1) (omega arith) in
    omega (arith, later, now, first, rest)
fewer_past (x ∷ xs) n (suc k) h e =
    let later : still_to_fail (x ∷ xs) (n + 1) ≡ counts (n + 1) x + still_to_fail xs (n + 1) = sum_by-cons (counts (n + 1)) x xs in
    let now : still_to_fail (x ∷ xs) n ≡ counts n x + still_to_fail xs n = sum_by-cons (counts n) x xs in
    let first : counts (n + 1) x ≤ counts n x = counts_fewer n (n + 1) x (omega arith) in
    let rest : still_to_fail xs (n + 1) + 1 ≤ still_to_fail xs n = fewer_past xs n k (grind (arith, h)) e in
    omega (arith, later, now, first, rest)

-- A listed call that is past is one less.
pub fewer_after : (failing : List ℕ) (n : ℕ) → n < 2 ^ 64 → Contains failing n
    → still_to_fail failing (number_after n) + 1 ≤ still_to_fail failing n
fewer_after failing n h (k, inside, e) =
    let after : number_after n ≡ n + 1 = grind (arith, leb_tells (suc n) (2 ^ 64)) in
    rw after (fewer_past failing n k inside e)

-- Another call that is past is no more.
pub fewer_or_same_after : (failing : List ℕ) (n : ℕ) → still_to_fail failing (number_after n) ≤ still_to_fail failing n
fewer_or_same_after failing n =
    let later : n ≤ number_after n = grind (arith, leb_tells (suc n) (2 ^ 64)) in
    still_fewer failing n (number_after n) later
