-- What a source has left and what a sink has taken, where they tell it.
use Rattle.std.specs.Prelude.{ℕ, List, [], ◌++◌, ◌≡◌, Option, None, Some}

-- A source that tells its bytes gave these from their start, and tells the others.
abbrev pub Gives : Option (List ℕ) → Option (List ℕ) → List ℕ → Type 0
Gives None new given = Unit {0}
Gives (Some left) None given = ⊥
Gives (Some left) (Some rest) given = left ≡ given ++ rest

-- what a source has left is the end of what it had
abbrev pub GivesPrefix : Option (List ℕ) → Option (List ℕ) → Type 0
GivesPrefix old new = (prefix : List ℕ) × Gives old new prefix

-- nothing is left, where that is told
abbrev pub IsAtEnd : Option (List ℕ) → Type 0
IsAtEnd None = Unit {0}
IsAtEnd (Some left) = left ≡ []

-- A sink that tells its bytes in the end told them before, and has taken these since.
abbrev pub Takes : Option (List ℕ) → Option (List ℕ) → List ℕ → Type 0
Takes old None piece = Unit {0}
Takes None (Some taken) piece = ⊥
Takes (Some before) (Some taken) piece = taken ≡ before ++ piece

-- the sink took a prefix of the text
abbrev pub TakesPrefix : Option (List ℕ) → Option (List ℕ) → List ℕ → Type 0
TakesPrefix old new text = (prefix rest : List ℕ) × (text ≡ prefix ++ rest) × Takes old new prefix

-- what holds of the bytes that a source has left before a call and after it, where it tells them
abbrev pub WhereKnown : Option (List ℕ) → Option (List ℕ) → (List ℕ → List ℕ → Type 0) → Type 0
WhereKnown None new P = Unit {0}
WhereKnown (Some before) None P = ⊥
WhereKnown (Some before) (Some after) P = P before after
