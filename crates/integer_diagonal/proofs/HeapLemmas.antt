-- What a heap of rows holds after a push or a pop.
use Rattle.std.proofs.Common.{◌≡◌, ◌⊎◌, ◌↔◌, ℕ, ◌+◌, ◌≤◌, false, List, [], ◌∷◌, ◌++◌, length, length-append, map, arith, refl, sym, subst, inl, inr, IsPermutation, is_lt, nat_cmp}
use Rattle.std.specs.declared.cmp.Ordering.{Ordering}
use Rattle.std.specs.declared.cmp.Ordering.TheVariants.{Equal, Greater, Less}
use Rattle.std.specs.declared.cmp.Reverse.{Reverse}
use Rattle.std.specs.Ordering.{ordering_then}
use Rattle.std.specs.BinaryHeap.{IsUpperBound}
use Rattle.std.proofs.lemmas.List.{length-map}
use Rattle.std.proofs.lemmas.List.Sorted.{Contains-permutation, IsPermutation-map, IsPermutation-sym}
use Rattle.std.proofs.lemmas.Map.Keys.{ge_from_not_lt}
use Rattle.bip_defs.specs.Lists.{Among}
use Rattle.bip_defs.proofs.Sets.{among_from_contains, contains_from_among}
use Rattle.integer_diagonal.specs.Nearness.{at_level, by_nearness, unwrapped}

-- a permutation has the same members
permuted : {X : Type 0} (xs ys : List X) → IsPermutation xs ys → (x : X) → Among x ys → Among x xs
permuted xs ys p x h = among_from_contains x xs (Contains-permutation ys xs x (IsPermutation-sym xs ys p) (contains_from_among x ys h))

permuted_back : {X : Type 0} (xs ys : List X) → IsPermutation xs ys → (x : X) → Among x xs → Among x ys
permuted_back xs ys p x h = among_from_contains x ys (Contains-permutation xs ys x p (contains_from_among x xs h))

pub pushed : (x : Reverse (ℕ × ℕ)) (xs ys : List (Reverse (ℕ × ℕ))) → IsPermutation (x ∷ xs) ys → (e : ℕ × ℕ) → Among e (map unwrapped ys) ↔ ((e ≡ unwrapped x) ⊎ Among e (map unwrapped xs))
pushed x xs ys p e = (λ h. permuted (map unwrapped (x ∷ xs)) (map unwrapped ys) (IsPermutation-map unwrapped (x ∷ xs) ys p) e h, λ h. permuted_back (map unwrapped (x ∷ xs)) (map unwrapped ys) (IsPermutation-map unwrapped (x ∷ xs) ys p) e h)

pub popped : (x : Reverse (ℕ × ℕ)) (xs ys : List (Reverse (ℕ × ℕ))) → IsPermutation xs (x ∷ ys) → (e : ℕ × ℕ) → Among e (map unwrapped xs) ↔ ((e ≡ unwrapped x) ⊎ Among e (map unwrapped ys))
popped x xs ys p e = (λ h. permuted_back (map unwrapped xs) (map unwrapped (x ∷ ys)) (IsPermutation-map unwrapped xs (x ∷ ys) p) e h, λ h. permuted (map unwrapped xs) (map unwrapped (x ∷ ys)) (IsPermutation-map unwrapped xs (x ∷ ys) p) e h)

first_not_less : (a b : Ordering) → is_lt (ordering_then a b) ≡ false → is_lt a ≡ false
first_not_less Less b e = e
first_not_less Equal b e = refl
first_not_less Greater b e = refl

-- the greatest in the heap's order is nearest
pub nearest_first : (x : Reverse (ℕ × ℕ)) (xs : List (Reverse (ℕ × ℕ))) → IsUpperBound by_nearness x xs → (e : ℕ × ℕ) → Among e (map unwrapped xs) → (unwrapped x).0 ≤ e.0
nearest_first x [] h e on = elim on [ ]
nearest_first x (y ∷ ys) h e (inl is) = subst (λ (z : ℕ × ℕ). (unwrapped x).0 ≤ z.0) (sym is) (ge_from_not_lt y.0.0 x.0.0 (first_not_less (nat_cmp y.0.0 x.0.0) (nat_cmp y.0.1 x.0.1) h.0))
nearest_first x (y ∷ ys) h e (inr on) = nearest_first x ys h.1 e on

-- how many rows lie in a list and a heap
pub length_of_both : (level : ℕ) (near : List ℕ) (heap : List (Reverse (ℕ × ℕ))) → length (at_level level near ++ map unwrapped heap) ≡ length near + length heap
length_of_both level near heap =
    let both = length-append (at_level level near) (map unwrapped heap) in
    let first = length-map {B = ℕ × ℕ} near (λ r. (level, r)) in
    let second = length-map heap unwrapped in
    omega (arith, both, first, second)
