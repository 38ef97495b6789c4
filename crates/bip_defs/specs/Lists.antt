-- Words on lists that stand for sets.
use Rattle.std.specs.Prelude.{◌≡◌, ◌⊎◌, ℕ, ◌<◌, Bool, true, false, Option, None, List, [], ◌∷◌, length, map, slice_index, slice_index_or}

-- x is one of the list
abbrev pub Among : {X : Type 0} → X → List X → Type 0
Among x [] = ⊥
Among x (y ∷ ys) = (x ≡ y) ⊎ Among x ys

-- no element stands twice
abbrev pub AreDistinct : {X : Type 0} → List X → Type 0
AreDistinct [] = Unit {0}
AreDistinct (x ∷ xs) = ¬ Among x xs × AreDistinct xs

-- x is below each of the list
abbrev pub IsBelowEach : ℕ → List ℕ → Type 0
IsBelowEach x [] = Unit {0}
IsBelowEach x (y ∷ ys) = (x < y) × IsBelowEach x ys

-- each number is below all later ones
abbrev pub IsRising : List ℕ → Type 0
IsRising [] = Unit {0}
IsRising (x ∷ xs) = IsBelowEach x xs × IsRising xs

-- the one list, rising, of the numbers that have P
pub record Lists (P : ℕ → Type 0) (xs : List ℕ) : Type 0 where
  pub rising : IsRising xs
  pub sound : (x : ℕ) → Among x xs → P x
  pub complete : (x : ℕ) → P x → Among x xs

-- the number stands at this place of the list
abbrev pub StandsAt : List ℕ → ℕ → ℕ → Type 0
StandsAt xs x i = (i < length xs) × (slice_index xs i ≡ x)

-- the number's place in a list of marks has one
abbrev pub IsMarked : List Bool → ℕ → Type 0
IsMarked marks x = slice_index_or marks x false ≡ true

-- what the list has at a place; none past its end
abbrev pub option_at : List (Option ℕ) → ℕ → Option ℕ
option_at options i = slice_index_or options i None

-- the first of each two numbers
abbrev pub numbers_of : List (ℕ × ℕ) → List ℕ
numbers_of pairs = map (λ (p : ℕ × ℕ). p.0) pairs

-- no word is listed twice by the new pairs, and none of these by the old ones
pub record AreNew (old new : List (ℕ × ℕ)) : Type 0 where
  pub differ : AreDistinct (numbers_of new)
  pub apart : (i : ℕ) → Among i (numbers_of new) → ¬ Among i (numbers_of old)
