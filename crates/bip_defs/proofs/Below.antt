-- Numbers below a bound.
use Rattle.std.proofs.Common.{◌≡◌, ◌≢◌, ℕ, ◌+◌, ◌<◌, List, [], ◌∷◌, ◌++◌, inl, sym, subst, ⊎_elim, arith}
use Rattle.bip_defs.specs.Lists.{Among, Lists}
use Rattle.bip_defs.specs.Matrix.{AreEntries, Matrix, Place, cols}
use Rattle.bip_defs.proofs.Sets.{among_last, among_left, among_right, entry_col, number_same, rising_last}

-- what holds of all numbers below n and of n holds of all below n + 1
pub below_more : (P : ℕ → Type 0) (n : ℕ) → ((x : ℕ) → x < n → P x) → P n → (x : ℕ) → x < n + 1 → P x
below_more P n below here x lt = ⊎_elim (λ (e : x ≡ n). subst P (sym e) here) (λ (ne : x ≢ n). below x (omega arith)) (number_same x n)

-- The list of the numbers below n that have P.

-- n has it
pub listed_more : (P : ℕ → Type 0) (n : ℕ) (xs : List ℕ) → Lists (λ x. (x < n) × P x) xs → P n → Lists (λ x. (x < n + 1) × P x) (xs ++ n ∷ [])
listed_more P n xs l p = record {
  rising = rising_last xs n l.rising (λ x h. (l.sound x h).0);
  sound = λ x h. ⊎_elim (λ g. let k = l.sound x g in (let lt = k.0 in omega arith, k.1)) (λ (e : x ≡ n). (omega arith, subst P (sym e) p)) (among_last x n xs h);
  complete = λ x q. ⊎_elim (λ (e : x ≡ n). among_right x xs (n ∷ []) (inl e)) (λ (ne : x ≢ n). among_left x xs (n ∷ []) (l.complete x (let lt = q.0 in omega arith, q.1))) (number_same x n);
}

-- n has not
pub listed_same : (P : ℕ → Type 0) (n : ℕ) (xs : List ℕ) → Lists (λ x. (x < n) × P x) xs → ¬ P n → Lists (λ x. (x < n + 1) × P x) xs
listed_same P n xs l np = record {
  rising = l.rising;
  sound = λ x h. let k = l.sound x h in (let lt = k.0 in omega arith, k.1);
  complete = λ x q. ⊎_elim (λ (e : x ≡ n). absurd (np (subst P e q.1))) (λ (ne : x ≢ n). l.complete x (let lt = q.0 in omega arith, q.1)) (number_same x n);
}

-- Places of entries.

pub entries_within : (a : Matrix) (ps : List Place) → AreEntries a ps → (r c : ℕ) → Among (r, c) ps → (r < a.rows) × (c < cols a)
entries_within a ps entries r c h = let e = entries r c h in (e.0, entry_col a r c e)
