-- What stands behind the LFs of a prefix.
use Rattle.std.proofs.Common.{◌≡◌, ℕ, zero, suc, ◌+◌, ◌<◌, ◌≤◌, Bool, true, false, cond, List, [], ◌∷◌, ◌++◌, length, count_by, refl, ap, ◌∙◌, arith}
use Rattle.std.specs.List.{slice_split, onto_first}
use Rattle.std.proofs.lemmas.List.Splits.{length-slice_split}
use Rattle.std.proofs.lemmas.List.Sums.{sum_by-cons}
use Rattle.mm_defs.specs.Words.{but_last, last_part, is_lf, lines, open_line}
use Rattle.mm_defs.specs.File.{behind}
use Rattle.mm_defs.proofs.SplitLemmas.{split_cons}

length-but_last : (x : List ℕ) (xs : List (List ℕ)) → length (but_last (x ∷ xs)) ≡ length xs
length-but_last x [] = refl
length-but_last x (y ∷ ys) = ap suc (length-but_last y ys)

-- as many lines have ended as there are LFs
pub length-lines : (bytes : List ℕ) → length (lines false bytes) ≡ count_by is_lf bytes
unfolding lines
length-lines bytes =
    let c = split_cons is_lf bytes in
    let n = length-slice_split is_lf bytes in
    let m : length (c.0 ∷ c.1) ≡ count_by is_lf bytes + 1 = rw c.2 at n in
    let k = length-but_last c.0 c.1 in
    rw c.2 (omega (arith, m, k))

-- a prefix that ends with an LF, or is empty
behind_lf : (b : ℕ) (prefix rest : List ℕ) (s : List ℕ) (ss : List (List ℕ)) (lf : Bool) → is_lf b ≡ lf
    → length (s ∷ ss) ≡ count_by is_lf prefix + 1
    → last_part (cond lf ([] ∷ s ∷ ss) (onto_first b (s ∷ ss))) ≡ []
    → (last_part (s ∷ ss) ≡ [] → behind (count_by is_lf prefix) (prefix ++ rest) ≡ rest)
    → behind (count_by is_lf (b ∷ prefix)) (b ∷ prefix ++ rest) ≡ rest
behind_lf b prefix rest s ss true e n h ih =
    let k : count_by is_lf (b ∷ prefix) ≡ suc (count_by is_lf prefix) = sum_by-cons _ b prefix ∙ rw e (omega arith) in
    rw (k, e) (ih h)
behind_lf b prefix rest s [] false e n h ih = absurd cc
behind_lf b prefix rest s (q ∷ qs) false e n h ih =
    let k : count_by is_lf (b ∷ prefix) ≡ count_by is_lf prefix = sum_by-cons _ b prefix ∙ rw e (omega arith) in
    let p : count_by is_lf prefix ≡ suc (length qs) = omega (arith, n) in
    let r : behind (suc (length qs)) (prefix ++ rest) ≡ rest = rw (← p) (ih h) in
    rw (k, p, e) r

pub behind-prefix : (prefix rest : List ℕ) → open_line prefix ≡ [] → behind (length (lines false prefix)) (prefix ++ rest) ≡ rest
unfolding open_line
behind-prefix prefix rest h = rw (length-lines prefix) (go prefix h)
  where
    go : (prefix : List ℕ) → last_part (slice_split is_lf prefix) ≡ [] → behind (count_by is_lf prefix) (prefix ++ rest) ≡ rest
    go [] h = refl
    go (b ∷ prefix) h =
        let c = split_cons is_lf prefix in
        let n = length-slice_split is_lf prefix in
        behind_lf b prefix rest c.0 c.1 (is_lf b) refl (rw c.2 at n) (rw c.2 at h) (λ e. go prefix (rw c.2 e))

-- past the last LF there is nothing
pub behind-past : (n : ℕ) (bytes : List ℕ) → count_by is_lf bytes < n → behind n bytes ≡ []
behind-past zero bytes h = absurd (omega arith)
behind-past (suc n) [] h = refl
behind-past (suc n) (b ∷ bytes) h = by (is_lf b) refl (behind-past n bytes) (behind-past (suc n) bytes)
  where
    by : (lf : Bool) → is_lf b ≡ lf → (count_by is_lf bytes < n → behind n bytes ≡ []) → (count_by is_lf bytes < suc n → behind (suc n) bytes ≡ []) → behind (suc n) (b ∷ bytes) ≡ []
    by true e yes_lf no_lf =
        let k : count_by is_lf (b ∷ bytes) ≡ suc (count_by is_lf bytes) = sum_by-cons _ b bytes ∙ rw e (omega arith) in
        rw e (yes_lf (omega (arith, k, h)))
    by false e yes_lf no_lf =
        let k : count_by is_lf (b ∷ bytes) ≡ count_by is_lf bytes = sum_by-cons _ b bytes ∙ rw e (omega arith) in
        rw e (no_lf (omega (arith, k, h)))

-- what stands behind some LFs is no longer than all
pub length-behind : (n : ℕ) (bytes : List ℕ) → length (behind n bytes) ≤ length bytes
length-behind zero bytes = omega arith
length-behind (suc n) [] = omega arith
length-behind (suc n) (b ∷ bytes) = by (is_lf b) refl (length-behind n bytes) (length-behind (suc n) bytes)
  where
    by : (lf : Bool) → is_lf b ≡ lf → length (behind n bytes) ≤ length bytes → length (behind (suc n) bytes) ≤ length bytes → length (behind (suc n) (b ∷ bytes)) ≤ length (b ∷ bytes)
    by true e yes_lf no_lf = rw e (omega arith)
    by false e yes_lf no_lf = rw e (omega arith)

-- and it is their end
pub behind_is_end : (n : ℕ) (bytes : List ℕ) → (front : List ℕ) × (bytes ≡ front ++ behind n bytes)
behind_is_end zero bytes = ([], refl)
behind_is_end (suc n) [] = ([], refl)
behind_is_end (suc n) (b ∷ bytes) = by (is_lf b) refl (behind_is_end n bytes) (behind_is_end (suc n) bytes)
  where
    by : (lf : Bool) → is_lf b ≡ lf → (front : List ℕ) × (bytes ≡ front ++ behind n bytes) → (front : List ℕ) × (bytes ≡ front ++ behind (suc n) bytes) → (front : List ℕ) × (b ∷ bytes ≡ front ++ behind (suc n) (b ∷ bytes))
    by true e yes_lf no_lf = (b ∷ yes_lf.0, rw e (ap (λ (t : List ℕ). b ∷ t) yes_lf.1))
    by false e yes_lf no_lf = (b ∷ no_lf.0, rw e (ap (λ (t : List ℕ). b ∷ t) no_lf.1))
