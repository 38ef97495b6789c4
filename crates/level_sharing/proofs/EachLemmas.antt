-- What holds of each element of two lists, one after the other.
use Rattle.std.proofs.Common.{◌≡◌, ℕ, suc, ◌+◌, List, [], ◌∷◌, ◌++◌, length, sym, ap, subst, arith, length-append, Result, Ok, Err, OnOk}
use Rattle.level_sharing.specs.Each.{AreReady, EachFrom, EachPairFrom, HaveWorked}

behind : (n k : ℕ) → suc n + k ≡ n + suc k
behind n k = omega arith

pub each_front : {X : Type 0} (P : ℕ → X → Type 0) (n : ℕ) (xs ys : List X) → EachFrom P n (xs ++ ys) → EachFrom P n xs
each_front P n [] ys h = tt
each_front P n (x ∷ xs) ys (p, h) = (p, each_front P (suc n) xs ys h)

pub each_back : {X : Type 0} (P : ℕ → X → Type 0) (n : ℕ) (xs ys : List X) → EachFrom P n (xs ++ ys) → EachFrom P (n + length xs) ys
each_back P n [] ys h = subst (λ k. EachFrom P k ys) (let e : n ≡ n + 0 = omega arith in e) h
each_back P n (x ∷ xs) ys (p, h) = subst (λ k. EachFrom P k ys) (behind n (length xs)) (each_back P (suc n) xs ys h)

pub each_pair_append : {X : Type 0} (P : ℕ → X → X → Type 0) (n : ℕ) (xs xs' ys ys' : List X) → EachPairFrom P n xs xs' → EachPairFrom P (n + length xs) ys ys' → EachPairFrom P n (xs ++ ys) (xs' ++ ys')
each_pair_append P n [] [] ys ys' f b = subst (λ k. EachPairFrom P k ys ys') (let e : n + 0 ≡ n = omega arith in e) b
each_pair_append P n [] (x' ∷ xs') ys ys' f b = absurd f
each_pair_append P n (x ∷ xs) [] ys ys' f b = absurd f
each_pair_append P n (x ∷ xs) (x' ∷ xs') ys ys' (p, f) b = (p, each_pair_append P (suc n) xs xs' ys ys' f (subst (λ k. EachPairFrom P k ys ys') (sym (behind n (length xs))) b))

-- both halves are ready where the whole is
pub ready_front : {X : Type 0} (P : ℕ → X → Type 0) (n : ℕ) (xs ys whole : List X) → whole ≡ xs ++ ys → AreReady P n whole → AreReady P n xs
ready_front P n xs ys whole w h = record {
  few = let few = h.few in let l = length-append xs ys in let all = ap length w in omega (arith, few, l, all);
  each = each_front P n xs ys (subst (EachFrom P n) w h.each);
}

pub ready_back : {X : Type 0} (P : ℕ → X → Type 0) (n m : ℕ) (xs ys whole : List X) → whole ≡ xs ++ ys → m ≡ n + length xs → AreReady P n whole → AreReady P m ys
ready_back P n m xs ys whole w e h = record {
  few = let few = h.few in let l = length-append xs ys in let all = ap length w in omega (arith, few, l, e, all);
  each = subst (λ k. EachFrom P k ys) (sym e) (each_back P n xs ys (subst (EachFrom P n) w h.each));
}

-- the pairs of a whole, from those of both halves
pub each_pair_halves : {X : Type 0} (P : ℕ → X → X → Type 0) (n m : ℕ) (prefix prefix' suffix suffix' whole : List X) → whole ≡ prefix ++ suffix → m ≡ n + length prefix
    → EachPairFrom P n prefix prefix' → EachPairFrom P m suffix suffix' → EachPairFrom P n whole (prefix' ++ suffix')
each_pair_halves P n m prefix prefix' suffix suffix' whole w e f b = subst (λ xs. EachPairFrom P n xs (prefix' ++ suffix')) (sym w) (each_pair_append P n prefix prefix' suffix suffix' f (subst (λ k. EachPairFrom P k suffix suffix') e b))

-- the same of elements that were worked on, where both answers are told as one
pub worked_halves : {X E : Type 0} (leaves completes : ℕ → X → X → Type 0) (n m : ℕ) (prefix prefix' suffix suffix' whole : List X) (low high answer : Result (Unit {0}) E) → whole ≡ prefix ++ suffix → m ≡ n + length prefix
    → HaveWorked leaves completes n prefix prefix' low → HaveWorked leaves completes m suffix suffix' high → OnOk answer ((low ≡ Ok tt) × (high ≡ Ok tt)) → HaveWorked leaves completes n whole (prefix' ++ suffix') answer
worked_halves {E = E} leaves completes n m prefix prefix' suffix suffix' whole low high answer w e f b both = record {
  always = each_pair_halves leaves n m prefix prefix' suffix suffix' whole w e f.always b.always;
  ok = done answer both;
}
  where
    done : (r : Result (Unit {0}) E) → OnOk r ((low ≡ Ok tt) × (high ≡ Ok tt)) → OnOk r (EachPairFrom completes n whole (prefix' ++ suffix'))
    done (Ok a) (p, q) = each_pair_halves completes n m prefix prefix' suffix suffix' whole w e (rw p at f.ok) (rw q at b.ok)
    done (Err x) both = tt
