-- Words as numbers: what they hold at the start.
use Rattle.std.proofs.Common.{◌≡◌, ℕ, ◌≤◌, List, [], ◌∷◌, ◌++◌, Option, None, Some, map, refl, sym, ap, subst, one-add, zero, suc}
use Rattle.bip_defs.specs.WordValues.{value_of}
use Rattle.claim_words.specs.WordCodes.{AllFit, code_by}

pub coded_read : (xs : List (Option ℕ)) → map value_of (map (code_by (λ (x : ℕ). x)) xs) ≡ xs
coded_read [] = refl
coded_read (None ∷ xs) = ap (λ ys. None ∷ ys) (coded_read xs)
coded_read (Some x ∷ xs) = subst (λ n. value_of n ∷ map value_of (map (code_by (λ (x : ℕ). x)) xs) ≡ Some x ∷ xs) (sym (one-add x)) (ap (λ ys. Some x ∷ ys) (coded_read xs))

pub fits_more : (ws : List ℕ) (x : ℕ) → AllFit ws → x ≤ 4294967296 → AllFit (ws ++ x ∷ [])
fits_more [] x fits le zero = le
fits_more [] x fits le (suc i) = fits 0
fits_more (w ∷ ws) x fits le zero = fits 0
fits_more (w ∷ ws) x fits le (suc i) = fits_more ws x (λ j. fits (suc j)) le i
