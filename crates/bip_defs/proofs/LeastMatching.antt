-- Codes of matchings, their order, and that there is one least maximum matching.
use Rattle.std.proofs.Common.{◌≡◌, ◌≢◌, ◌⊎◌, ◌↔◌, ◌∙◌, ℕ, zero, suc, ◌+◌, ◌<◌, ◌≤◌, List, [], ◌∷◌, map, drop, slice_index, refl, sym, ap, ap₂, subst, inl, inr, ⊎_elim, arith, eq-eqb, ne_eqb}
use Rattle.bip_defs.specs.LeastMatching.{IsLeastMaximum, IsNotAfter, code, mate_or}
use Rattle.bip_defs.specs.Lists.{Among, AreDistinct, IsRising}
use Rattle.bip_defs.specs.Matching.{IsMatching, cols_of}
use Rattle.bip_defs.specs.Matrix.{Matrix, Place, cols, upto_from}
use Rattle.bip_defs.proofs.Sets.{below_each_sound, col_among, entry_col, number_same}

-- The mate of a column.

mate_here : (none : ℕ) (p : Place) (m : List Place) (c : ℕ) → p.1 ≡ c → mate_or none (p ∷ m) c ≡ p.0
mate_here none p m c e = rw (eq-eqb p.1 c e) refl

mate_later : (none : ℕ) (p : Place) (m : List Place) (c : ℕ) → p.1 ≢ c → mate_or none (p ∷ m) c ≡ mate_or none m c
mate_later none p m c ne = rw (ne_eqb p.1 c ne) refl

pub mate_of_pair : (none : ℕ) (m : List Place) (r c : ℕ) → AreDistinct (cols_of m) → Among (r, c) m → mate_or none m c ≡ r
mate_of_pair none [] r c a h = elim h [ ]
mate_of_pair none (p ∷ m) r c a (inl e) = mate_here none p m c (sym (ap (λ (q : Place). q.1) e)) ∙ sym (ap (λ (q : Place). q.0) e)
mate_of_pair none (p ∷ m) r c a (inr h) = mate_later none p m c (λ e. a.0 (subst (λ x. Among x (cols_of m)) (sym e) (col_among r c m h))) ∙ mate_of_pair none m r c a.1 h

pub mate_of_none : (none : ℕ) (m : List Place) (c : ℕ) → ¬ Among c (cols_of m) → mate_or none m c ≡ none
mate_of_none none [] c nh = refl
mate_of_none none (p ∷ m) c nh = mate_later none p m c (λ e. nh (inl (sym e))) ∙ mate_of_none none m c (λ h. nh (inr h))

pub pair_of_mate : (none : ℕ) (m : List Place) (r c : ℕ) → mate_or none m c ≡ r → r ≢ none → Among (r, c) m
pair_of_mate none [] r c e ne = absurd (ne (sym e))
pair_of_mate none (p ∷ m) r c e ne = ⊎_elim (λ (f : p.1 ≡ c). inl (λ i. (let row : r ≡ p.0 = sym e ∙ mate_here none p m c f in row i, sym f i))) (λ (nf : p.1 ≢ c). inr (pair_of_mate none m r c (sym (mate_later none p m c nf) ∙ e) ne)) (number_same p.1 c)

-- Codes.

pub not_after_both : (xs ys : List ℕ) → IsNotAfter xs ys → IsNotAfter ys xs → xs ≡ ys
not_after_both [] [] f g = refl
not_after_both [] (y ∷ ys) f g = absurd g
not_after_both (x ∷ xs) [] f g = absurd f
not_after_both (x ∷ xs) (y ∷ ys) (inl lt) (inl gt) = absurd (omega arith)
not_after_both (x ∷ xs) (y ∷ ys) (inl lt) (inr g) = absurd (omega (arith, g.0))
not_after_both (x ∷ xs) (y ∷ ys) (inr f) (inl gt) = absurd (omega (arith, f.0))
not_after_both (x ∷ xs) (y ∷ ys) (inr f) (inr g) = ap₂ (λ u v. u ∷ v) f.0 (not_after_both xs ys f.1 g.1)

same_from : (f g : ℕ → ℕ) (k n c : ℕ) → map f (upto_from k n) ≡ map g (upto_from k n) → k ≤ c → c < k + n → f c ≡ g c
same_from f g k zero c e le lt = absurd (omega arith)
same_from f g k (suc n) c e le lt = ⊎_elim
    (λ (h : c ≡ k). ap f h ∙ ap (λ xs. slice_index xs 0) e ∙ sym (ap g h))
    (λ (h : c ≢ k). same_from f g (suc k) n c (ap (drop 1) e) (omega arith) (omega arith))
    (number_same c k)

-- columns of one code have the same mates
pub same_mates : (a : Matrix) (m n : List Place) (c : ℕ) → code a m ≡ code a n → c < cols a → mate_or a.rows m c ≡ mate_or a.rows n c
same_mates a m n c e lt = same_from (mate_or a.rows m) (mate_or a.rows n) 0 (cols a) c e (omega arith) (omega arith)

-- at the numbers below i two functions are the same, and at i the first has the smaller value
abbrev pub FirstBelow : (ℕ → ℕ) → (ℕ → ℕ) → ℕ → Type 0
FirstBelow f g i = (f i < g i) × ((x : ℕ) → x < i → f x ≡ g x)

not_after_from : (f g : ℕ → ℕ) (k n : ℕ) → ((x : ℕ) → x < k + n → f x ≡ g x) ⊎ ((i : ℕ) × (k ≤ i) × (i < k + n) × FirstBelow f g i) → IsNotAfter (map f (upto_from k n)) (map g (upto_from k n))
not_after_from f g k zero h = tt
not_after_from f g k (suc n) (inl same) = inr (same k (omega arith), not_after_from f g (suc k) n (inl (λ x lt. same x (omega arith))))
not_after_from f g k (suc n) (inr h) = ⊎_elim
    (λ (e : h.0 ≡ k). inl (subst (λ i. f i < g i) e h.3.0))
    (λ (ne : h.0 ≢ k). inr (h.3.1 k (let le = h.1 in omega arith), not_after_from f g (suc k) n (inr (h.0, (let le = h.1 in omega arith), (let lt = h.2 in omega arith), h.3))))
    (number_same h.0 k)

-- codes whose first difference is known
pub not_after : (a : Matrix) (m n : List Place) → ((x : ℕ) → x < cols a → mate_or a.rows m x ≡ mate_or a.rows n x) ⊎ ((i : ℕ) × (i < cols a) × FirstBelow (mate_or a.rows m) (mate_or a.rows n) i) → IsNotAfter (code a m) (code a n)
not_after a m n (inl same) = not_after_from (mate_or a.rows m) (mate_or a.rows n) 0 (cols a) (inl (λ x lt. same x (omega arith)))
not_after a m n (inr h) = not_after_from (mate_or a.rows m) (mate_or a.rows n) 0 (cols a) (inr (h.0, omega arith, (let lt = h.1 in omega arith), h.2))

-- There is one.

pub one_code : (a : Matrix) (m n : List Place) → IsLeastMaximum a m → IsLeastMaximum a n → code a m ≡ code a n
one_code a m n x y = not_after_both (code a m) (code a n) (x.least n y.maximum) (y.least m x.maximum)

code_pairs : (a : Matrix) (m n : List Place) → IsMatching a m → code a m ≡ code a n → (p : Place) → Among p m → Among p n
code_pairs a m n k e p h =
    let entry = k.entries p.0 p.1 h in
    pair_of_mate a.rows n p.0 p.1 (sym (same_mates a m n p.1 e (entry_col a p.0 p.1 entry)) ∙ mate_of_pair a.rows m p.0 p.1 k.cols_differ h) (λ f. let lt = entry.0 in omega (arith, f))

pub one_set : (a : Matrix) (m n : List Place) (p : Place) → IsLeastMaximum a m → IsLeastMaximum a n → Among p m ↔ Among p n
one_set a m n p x y = (code_pairs a m n x.maximum.matching (one_code a m n x y) p, code_pairs a n m y.maximum.matching (sym (one_code a m n x y)) p)

-- pairs that rise by column are determined by their members
pub rising_pairs : (m n : List Place) → IsRising (cols_of m) → IsRising (cols_of n) → ((p : Place) → Among p m → Among p n) → ((p : Place) → Among p n → Among p m) → m ≡ n
rising_pairs [] [] a b f g = refl
rising_pairs [] (q ∷ n) a b f g = absurd (g q (inl refl))
rising_pairs (p ∷ m) [] a b f g = absurd (f p (inl refl))
rising_pairs (p ∷ m) (q ∷ n) a b f g = ap₂ (λ u v. u ∷ v) heads (rising_pairs m n a.1 b.1 over back)
  where
    after : (r s : Place) (l : List Place) → IsRising (cols_of (r ∷ l)) → Among s l → r.1 < s.1
    after r s l x h = below_each_sound r.1 s.1 (cols_of l) x.0 (col_among s.0 s.1 l h)

    heads : p ≡ q
    heads = by (f p (inl refl)) (g q (inl refl))
      where
        by : Among p (q ∷ n) → Among q (p ∷ m) → p ≡ q
        by (inl e) k = e
        by (inr h) (inl e) = sym e
        by (inr h) (inr k) = absurd (omega (arith, after q p n b h, after p q m a k))

    over : (s : Place) → Among s m → Among s n
    over s h = ⊎_elim (λ (e : s ≡ q). absurd (omega (arith, after p s m a h, ap (λ (z : Place). z.1) (e ∙ sym heads)))) (λ k. k) (f s (inr h))

    back : (s : Place) → Among s n → Among s m
    back s h = ⊎_elim (λ (e : s ≡ p). absurd (omega (arith, after q s n b h, ap (λ (z : Place). z.1) (e ∙ heads)))) (λ k. k) (g s (inr h))

pub one_list : (a : Matrix) (m n : List Place) → IsLeastMaximum a m → IsLeastMaximum a n → IsRising (cols_of m) → IsRising (cols_of n) → m ≡ n
one_list a m n x y rise rise2 = rising_pairs m n rise rise2 (λ p. (one_set a m n p x y).0) (λ p. (one_set a m n p x y).1)
