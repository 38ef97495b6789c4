-- What holds of each of a list's elements, one by one. The elements are numbered, and the first has
-- the number n.
use Rattle.std.specs.Prelude.{ℕ, suc, ◌+◌, ◌<◌, ◌^◌, List, [], ◌∷◌, length, OnOk, Result}

abbrev pub EachFrom : {X : Type 0} → (ℕ → X → Type 0) → ℕ → List X → Type 0
EachFrom P n [] = Unit {0}
EachFrom P n (x ∷ xs) = P n x × EachFrom P (suc n) xs

-- of two lists of one length, each element of the one and that of the other in its place
abbrev pub EachPairFrom : {X : Type 0} → (ℕ → X → X → Type 0) → ℕ → List X → List X → Type 0
EachPairFrom P n [] [] = Unit {0}
EachPairFrom P n [] (y ∷ ys) = ⊥
EachPairFrom P n (x ∷ xs) [] = ⊥
EachPairFrom P n (x ∷ xs) (y ∷ ys) = P n x y × EachPairFrom P (suc n) xs ys

-- elements that have P, few enough that each has a number below 2 ^ 32
pub record AreReady {X : Type 0} (P : ℕ → X → Type 0) (first : ℕ) (xs : List X) : Type 0 where
  pub few : first + length xs < 2 ^ 32
  pub each : EachFrom P first xs

-- elements that were worked on with this answer: each left what it always leaves, and where none
-- ended early what it completes
pub record HaveWorked {X E : Type 0} (leaves completes : ℕ → X → X → Type 0) (first : ℕ)
    (before after : List X) (answer : Result (Unit {0}) E) : Type 0 where
  pub always : EachPairFrom leaves first before after
  pub ok : OnOk answer (EachPairFrom completes first before after)
