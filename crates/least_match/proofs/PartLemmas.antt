-- The parts of columns.
use Rattle.std.proofs.Common.{◌≡◌, ◌⊎◌, ◌∙◌, ℕ, suc, zero, ◌+◌, ◌<◌, ◌≤◌, Bool, List, [], ◌∷◌, ◌++◌, length, length-append, length-set, replicate, set, take, get_or, get_or-set_other, get_or-set_same, inl, inr, refl, sym, ap, subst, ⊎_elim, arith}
use Rattle.std.proofs.lemmas.List.{get_or_append_left, length-replicate, take_all, take_more}
use Rattle.std.proofs.Math.Decide.{dec_lt}
use Rattle.bip_defs.specs.Lists.{Among, IsMarked, Lists}
use Rattle.bip_defs.specs.Marks.{Marks}
use Rattle.bip_defs.specs.Matrix.{IsEntry, Matrix, cols}
use Rattle.bip_defs.specs.Parts.{IsHorizontalCol, IsVerticalCol, IsVerticalRow}
use Rattle.bip_defs.proofs.Sets.{among_last, among_left, among_right, number_among, number_same}
use Rattle.least_match.specs.Outcomes.{AreParted, IsGiven, IsIn}
use Rattle.least_match.specs.declared.parts.ColPart.{ColPart}
use Rattle.least_match.specs.declared.parts.ColPart.TheVariants.{Horizontal, Square, Vertical}

-- a column none of whose rows is vertical
pub not_vertical : (a : Matrix) (c k : ℕ) (rows : List ℕ) (marks : List Bool) → Marks a.rows (IsVerticalRow a) marks → Lists (λ r. IsEntry a r c) rows → ((r : ℕ) → Among r (take k rows) → ¬ IsMarked marks r) → length rows ≤ k → ¬ IsVerticalCol a c
not_vertical a c k rows marks m listed none all v = none v.0 (subst (Among v.0) (sym (take_all k rows all)) (listed.complete v.0 v.2)) ((m.exact v.0 v.2.0).1 v.1)

-- the parts of the columns below n
pub record ArePartedBelow (a : Matrix) (n : ℕ) (parts : List ColPart) : Type 0 where
  pub long : length parts ≡ n
  pub each : (c : ℕ) → c < n → IsIn a c (get_or parts c Square)

pub parted_more : (a : Matrix) (n : ℕ) (parts : List ColPart) (p : ColPart) → ArePartedBelow a n parts → IsIn a n p → ArePartedBelow a (n + 1) (parts ++ p ∷ [])
parted_more a n parts p k is = record { long = length-append parts (p ∷ []) ∙ ap (λ x. x + 1) k.long; each = λ c lt. by c lt (dec_lt c n) }
  where
    last : (ps : List ColPart) → get_or (ps ++ p ∷ []) (length ps) Square ≡ p
    last [] = refl
    last (x ∷ ps) = last ps

    by : (c : ℕ) → c < n + 1 → Dec (c < n) → IsIn a c (get_or (parts ++ p ∷ []) c Square)
    by c lt (yes l) = subst (IsIn a c) (sym (get_or_append_left parts (p ∷ []) Square c (omega (arith, k.long)))) (k.each c l)
    by c lt (no nl) =
        let here : c ≡ n = omega arith in
        subst (λ x. IsIn a x (get_or (parts ++ p ∷ []) x Square)) (sym here) (subst (IsIn a n) (sym (ap (λ x. get_or (parts ++ p ∷ []) x Square) (sym k.long) ∙ last parts)) is)

-- Parts by their lists.

pub given_more : (old cur : List ColPart) (xs : List ℕ) (p : ColPart) (k x : ℕ) → IsGiven old p (take k xs) cur → k < length xs → get_or xs k 0 ≡ x → x < length old → IsGiven old p (take (k + 1) xs) (set cur x p)
given_more old cur xs p k x g lt e within = record {
  long = length-set cur x p ∙ g.long;
  given = λ c h. ⊎_elim (λ (f : c ≡ x). ap (λ y. get_or (set cur x p) y Square) f ∙ get_or-set_same cur x p Square (omega (arith, g.long))) (λ ne. get_or-set_other cur x c p Square ne ∙ g.given c (⊎_elim (λ i. i) (λ i. absurd (ne (i ∙ e))) (is_old c h))) (number_same c x);
  kept = λ c nh. get_or-set_other cur x c p Square (λ f. nh (back c (inr (f ∙ sym e)))) ∙ g.kept c (λ i. nh (back c (inl i)));
}
  where
    is_old : (c : ℕ) → Among c (take (k + 1) xs) → Among c (take k xs) ⊎ (c ≡ get_or xs k 0)
    is_old c h = among_last c (get_or xs k 0) (take k xs) (subst (Among c) (take_more xs k 0 lt) h)

    back : (c : ℕ) → Among c (take k xs) ⊎ (c ≡ get_or xs k 0) → Among c (take (k + 1) xs)
    back c g = subst (Among c) (sym (take_more xs k 0 lt)) (⊎_elim (λ h. among_left c (take k xs) (get_or xs k 0 ∷ []) h) (λ h. among_right c (take k xs) (get_or xs k 0 ∷ []) (inl h)) g)

-- the square part for all, the horizontal part for its columns, then the vertical part for its own
pub parted_by_lists : (a : Matrix) (hs vs : List ℕ) (first second third : List ColPart) → Lists (IsHorizontalCol a) hs → Lists (IsVerticalCol a) vs → first ≡ replicate (cols a) Square → IsGiven first Horizontal hs second → IsGiven second Vertical vs third → AreParted a third
parted_by_lists a hs vs first second third h v start g f = record {
  long = f.long ∙ g.long ∙ ap (λ (z : List ColPart). length z) start ∙ length-replicate {A = ColPart} (cols a) Square;
  each = λ c lt. by c (number_among c vs) (number_among c hs);
}
  where
    square : (c : ℕ) → get_or first c Square ≡ Square
    square c = subst (λ (z : List ColPart). get_or z c Square ≡ Square) (sym start) (repeated (cols a) c)
      where
        repeated : (n c : ℕ) → get_or (replicate n Square) c Square ≡ Square
        repeated zero c = refl
        repeated (suc n) zero = refl
        repeated (suc n) (suc c) = repeated n c

    by : (c : ℕ) → Among c vs ⊎ (¬ Among c vs) → Among c hs ⊎ (¬ Among c hs) → IsIn a c (get_or third c Square)
    by c (inl on) w = subst (IsIn a c) (sym (f.given c on)) (v.sound c on)
    by c (inr off) (inl on) = subst (IsIn a c) (sym (f.kept c off ∙ g.given c on)) (h.sound c on)
    by c (inr off) (inr out) = subst (IsIn a c) (sym (f.kept c off ∙ g.kept c out ∙ square c)) ((λ z. out (h.complete c z)), (λ z. off (v.complete c z)))
