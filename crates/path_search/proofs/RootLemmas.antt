-- Lists of the unmatched columns that have entries.
use Rattle.std.proofs.Common.{◌≡◌, ◌↔◌, ◌==◌, ℕ, ◌<◌, ◌≤◌, Bool, not, IsTrue, List, [], ◌∷◌, length, map, refl, sym, subst, inl, arith, true≢false}
use Rattle.bip_defs.specs.Lists.{Among, Lists}
use Rattle.bip_defs.specs.Matching.{cols_of}
use Rattle.bip_defs.specs.Matrix.{IsEntry, Matrix, Place, cols}
use Rattle.bip_defs.proofs.Sets.{entry_col, rising_distinct}
use Rattle.bip_defs.proofs.Full.{few_below}
use Rattle.path_search.specs.Roots.{IsRoot}

-- an unmatched column is a root exactly where its list is not empty
pub root_known : {X : Type 0} (a : Matrix) (m : List Place) (c : ℕ) (f : X → ℕ) (xs : List X) (empty : Bool) → Lists (λ r. IsEntry a r c) (map f xs) → ¬ Among c (cols_of m) → empty ≡ (length xs == 0) → IsTrue (not empty) ↔ IsRoot a m c
root_known a m c f [] empty l free is = (λ t. absurd (true≢false (sym (subst (λ b. IsTrue (not b)) is t))), λ root. absurd (l.complete root.entry.0 root.entry.1))
root_known a m c f (x ∷ xs) empty l free is = (λ t. record { unmatched = free; entry = (f x, l.sound (f x) (inl refl)) }, λ root. subst (λ b. IsTrue (not b)) (sym is) (let long : IsTrue (not (length (x ∷ xs) == 0)) = grind arith in long))

pub listed_short : (P : ℕ → Type 0) (n : ℕ) (xs : List ℕ) → Lists (λ c. (c < n) × P c) xs → length xs ≤ n
listed_short P n xs l = few_below n xs (rising_distinct xs l.rising) (λ x h. (l.sound x h).0)

-- all columns were looked at
pub listed_all : (a : Matrix) (m : List Place) (n : ℕ) (xs : List ℕ) → n ≡ cols a → Lists (λ c. (c < n) × IsRoot a m c) xs → Lists (IsRoot a m) xs
listed_all a m n xs e l = record {
  rising = l.rising;
  sound = λ x h. (l.sound x h).1;
  complete = λ x root. l.complete x (let lt = entry_col a root.entry.0 x root.entry.1 in omega arith, root);
}
